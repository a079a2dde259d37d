-- No line of a listing is empty. Assumes nothing.
use mathlib.Core.List.{List, [], ◌∷◌, ◌++◌, map}
use Prim.Native.Nat.{ℕ, zero, suc, ◌≤◌, ◌<◌}
use native.Mathlib.Omega.{arith}
use lib.ListN.{length, get_or, length-append}
use Rattle.switch.specs.Conduction.{Value, EdgeTag, by_position, stated, Edge}
use Rattle.switch.specs.Modules.{ModuleType}
use Rattle.circuit.specs.Circuit.{Circuit, Instance, Listed}
use Rattle.circuit.specs.Reading.{Reading, accepted, refusal}
use Rattle.circuit.specs.declared.Reading.{Reading as ReadingRecord}
use Rattle.print_lines.specs.Pieces.{line_in}
use Rattle.print_lines.proofs.LineSizes.{refusal_sized}
use Rattle.print_lines.proofs.LineList.{EachLine, each_at, each_append, each_map}
use Rattle.print_circuit.specs.Lines.{inputs_line, type_line, edge_line_by, edge_line, bridge_line, instance_line, vector_line}
use Rattle.print_circuit.specs.Listing.{numbered_lines, grouped_lines, type_lines, inputs_lines, circuit_lines, refusal_lines, listing_of}
use Rattle.print_circuit.specs.Told.{circuit_told, reading_told, listing_told}

abbrev pub Filled : List (List ℕ) → Type 0
Filled lines = EachLine (λ (line : List ℕ). 1 ≤ length line) lines

pub filled_at : (lines : List (List ℕ)) (n : ℕ) → Filled lines → n < length lines → 1 ≤ length (get_or lines n [])
unfolding line_in
filled_at lines n f h = each_at (λ (line : List ℕ). 1 ≤ length line) lines n f h

filled-append : (a b : List (List ℕ)) → Filled a → Filled b → Filled (a ++ b)
filled-append a b f g = each_append (λ (line : List ℕ). 1 ≤ length line) a b f g

module _ {A : Type 0} where
  filled_map : (line : A → List ℕ) → ((a : A) → 1 ≤ length (line a)) → (l : List A) → Filled (map line l)
  filled_map line some l = each_map (λ (line : List ℕ). 1 ≤ length line) line some l

  filled_numbered : (line : ℕ → A → List ℕ) → ((n : ℕ) (a : A) → 1 ≤ length (line n a)) → (first : ℕ) (l : List A) → Filled (numbered_lines line first l)
  unfolding numbered_lines
  filled_numbered line some first [] = tt
  filled_numbered line some first (a ∷ l) = (some first a, filled_numbered line some (suc first) l)

  filled_grouped : (lines : ℕ → A → List (List ℕ)) → ((n : ℕ) (a : A) → Filled (lines n a)) → (first : ℕ) (l : List A) → Filled (grouped_lines lines first l)
  unfolding grouped_lines
  filled_grouped lines some first [] = tt
  filled_grouped lines some first (a ∷ l) = filled-append (lines first a) (grouped_lines lines (suc first) l) (some first a) (filled_grouped lines some (suc first) l)

edge-filled : (tag : EdgeTag) (e : Edge) → 1 ≤ length (edge_line_by tag e)
unfolding edge_line_by
edge-filled by_position e = simp length-append (omega arith)
edge-filled stated e = simp length-append (omega arith)

edges-filled : (l : List Edge) → Filled (map edge_line l)
unfolding edge_line
edges-filled l = filled_map edge_line (λ e. edge-filled e.tag e) l

bridges-filled : (l : List Listed) → Filled (map bridge_line l)
unfolding bridge_line
bridges-filled l = filled_map bridge_line (λ b. simp length-append (omega arith)) l

instances-filled : (l : List Instance) → Filled (numbered_lines instance_line 1 l)
unfolding instance_line
instances-filled l = filled_numbered instance_line (λ n i. simp length-append (omega arith)) 1 l

vectors-filled : (l : List (List Value)) → Filled (numbered_lines vector_line 1 l)
unfolding vector_line
vectors-filled l = filled_numbered vector_line (λ n v. simp length-append (omega arith)) 1 l

type-filled : (number : ℕ) (t : ModuleType) → Filled (type_lines number t)
unfolding type_lines type_line
type-filled number t = (simp length-append (omega arith), edges-filled t.edges)

types-filled : (first : ℕ) (types : List ModuleType) → Filled (grouped_lines type_lines first types)
types-filled first types = filled_grouped type_lines type-filled first types

inputs-filled : (inputs : ℕ) → Filled (inputs_lines inputs)
unfolding inputs_lines inputs_line
inputs-filled zero = tt
inputs-filled (suc n) = (simp length-append (omega arith), tt)

circuit-filled : (c : Circuit) → Filled (circuit_lines c)
unfolding circuit_lines
circuit-filled c =
    filled-append (inputs_lines c.inputs) _ (inputs-filled c.inputs)
    (filled-append (grouped_lines type_lines 1 c.types) _ (types-filled 1 c.types)
    (filled-append (map bridge_line c.bridges) _ (bridges-filled c.bridges)
    (filled-append (numbered_lines instance_line 1 c.instances) _ (instances-filled c.instances) (vectors-filled c.vectors))))

refusal-filled : (reading : Reading) → Filled (refusal_lines reading)
unfolding refusal_lines
refusal-filled (accepted c) = tt
refusal-filled (refusal number place) = ((refusal_sized number place).0, tt)

pub listing_filled : (r : ReadingRecord) → Filled (listing_told r)
unfolding listing_told listing_of
listing_filled r =
    filled-append (circuit_lines (circuit_told r.circuit)) (refusal_lines (reading_told r)) (circuit-filled (circuit_told r.circuit)) (refusal-filled (reading_told r))
