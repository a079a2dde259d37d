-- `print_circuit::parts::labels_of` meets its contract. Assumes nothing.
use mathlib.Core.Path.{◌≡◌, refl, sym, ap, ◌∙◌}
use mathlib.Core.List.{List, map}
use Prim.Native.Nat.{ℕ, suc, ◌≤◌, ◌<◌}
use native.Mathlib.Omega.{arith}
use borrow.Author.Rules.{rules}
use lib.ListN.{length, get_or, length-map, get_or-map, get_or-eq_default}
use Rattle.std.specs.Prelude.{Option, Some, None, MatchOption}
use Rattle.std.specs.Borrow.{Bor}
use Rattle.circuit.proofs.Tested.{get_or-any}
use Rattle.circuit.specs.Circuit.{numbered, no_type}
use Rattle.switch.specs.Modules.{ModuleType}
use Rattle.switch.specs.Records.{type_of}
use Rattle.switch.specs.declared.ModuleType.{ModuleType as TypeRecord}
use Rattle.print_circuit.proofs.parts.labels_of.Goals as goal

none-numbered : (types : List ModuleType) (number : ℕ) → number ≡ 0 → 0 ≡ (numbered types number no_type).labels
unfolding numbered
none-numbered types number e = rw e refl

-- what the type at a place says, if there is one
labels_read : (types : List TypeRecord) (number place : ℕ) → number ≡ suc place → (found : Option (Bor TypeRecord)) (labels : ℕ)
    → {Says : Bor TypeRecord → Type 0} → ((t : Bor TypeRecord) → Says t → labels ≡ t.now.labels)
    → MatchOption found (length types ≤ place) (λ (t : Bor TypeRecord). (place < length types) × ((d : TypeRecord) → t.now ≡ get_or types place d))
    → MatchOption found (labels ≡ 0) Says
    → labels ≡ (numbered (map type_of types) number no_type).labels
unfolding numbered type_of
labels_read types number place e None labels says past none =
    let over : length (map type_of types) ≤ place = omega (arith, length-map types type_of) in
    rw e (none ∙ ap (λ (t : ModuleType). t.labels) (sym (get_or-eq_default (map type_of types) no_type over)))
labels_read types number place e (Some t) labels says there said =
    rw e (says t said
    ∙ ap (λ (r : TypeRecord). (type_of r).labels) (there.1 t.now)
    ∙ ap (λ (r : ModuleType). r.labels) (sym (get_or-any (map type_of types) place no_type (type_of t.now) (omega (arith, length-map types type_of, there.0)) ∙ get_or-map type_of types place t.now)))

pub returns-in_default : goal.returns-in_default
returns-in_default c = none-numbered _ _ (omega (arith, c.in_default.ensures))

pub returns : goal.returns
returns c = labels_read c.args.types.now c.args.number c.in-Some.place (omega (arith, c.in-Some.ensures)) c.get.result c.map_or.result (λ t said. search rules) c.get.ensures.lookup.3 c.map_or.ensures
