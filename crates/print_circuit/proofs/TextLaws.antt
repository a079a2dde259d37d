-- The texts of a line's fields by what the code tests of the record. Assumes nothing.
use mathlib.Core.Path.{◌≡◌, refl, sym, ap}
use mathlib.Core.Bool.{Bool, cond}
use mathlib.Core.List.{List, ◌++◌, map, map-map}
use Prim.Native.Nat.{ℕ, zero, suc, ◌≤◌, min}
use native.Mathlib.Omega.{arith}
use borrow.Author.Tests.{ne_eqb}
use Rattle.words.specs.Bits.{bit}
use Rattle.words.specs.Tables.{table}
use Rattle.words.proofs.Tables.{map-table}
use Rattle.print_lines.specs.Ascii.{bytes_of}
use Rattle.print_lines.specs.Decimal.{decimal, digits_of, length_in}
use Rattle.switch.specs.Conduction.{channel_p, channel_n, EdgeTag, by_position, stated}
use Rattle.switch.specs.Records.{edge_of, channel_in, tag_in, value_of}
use Rattle.switch.specs.declared.Edge.{Edge as EdgeRecord}
use Rattle.circuit.specs.Circuit.{join_lists}
use Rattle.circuit.specs.declared.Reference.{Reference as ReferenceRecord}
use Rattle.circuit.specs.declared.Vector.{Vector as VectorRecord}
use Rattle.print_circuit.specs.Lines.{spaced, channel_text, edge_line_by, edge_line, kind_text, ends_text, choice_text, reference_text, value_letter}
use Rattle.print_circuit.specs.Told.{bridge_told, choice_told, reference_told, vector_told}

-- ---- the channel of an edge, and its line

-- each where a test of the record came out as `is`
pub channel-is : (e : EdgeRecord) (test is : Bool) → test ≡ is → cond test channel_p channel_n ≡ channel_in e
    → channel_text (cond is channel_p channel_n) ≡ channel_text (channel_in e)
channel-is e test is same h = rw (← same) (ap channel_text h)

pub edge-line-is : (e : EdgeRecord) (test is : Bool) → test ≡ is → cond test stated by_position ≡ tag_in e
    → edge_line_by (cond is stated by_position) (edge_of e) ≡ edge_line (edge_of e)
unfolding edge_line edge_of
edge-line-is e test is same h = rw (← same) (ap (λ (tag : EdgeTag). edge_line_by tag (edge_of e)) h)

-- ---- the kind and the ends of a bridge

pub kind-n : (kind : ℕ) → kind ≡ 0 → bytes_of " n" ≡ kind_text kind
unfolding kind_text
kind-n kind e = rw e

pub kind-i : (kind : ℕ) → (kind ≡ 0 → ⊥) → bytes_of " i" ≡ kind_text kind
unfolding kind_text
kind-i zero other = absurd (other refl)
kind-i (suc kind) other = refl

pub ends-are : (kind a b : ℕ) → kind_text kind ++ spaced a ++ spaced b ≡ ends_text (bridge_told kind a b)
unfolding kind_text ends_text bridge_told
ends-are zero a b = refl
ends-are (suc kind) a b = refl

-- ---- a list choice

pub choice_255 : (byte : ℕ) → byte ≡ 255 → bytes_of " -1" ≡ choice_text (choice_told byte)
unfolding choice_text choice_told
choice_255 byte e = rw e

pub choice-other : (byte : ℕ) → (byte ≡ 255 → ⊥) → spaced byte ≡ choice_text (choice_told byte)
unfolding choice_text choice_told spaced decimal digits_of length_in
choice-other zero other = refl
choice-other (suc n) other = rw (ne_eqb (suc n) 255 other)

-- ---- a reference

-- the text of a reference's record
abbrev pub record_text : ReferenceRecord → List ℕ
record_text r = reference_text (reference_told r)

pub references_are : (l : List ReferenceRecord) → join_lists (map record_text l) ≡ join_lists (map reference_text (map reference_told l))
references_are l = ap join_lists (sym (map-map reference_text reference_told l))

-- ---- the letters of a vector

pub letter_1 : (a b : ℕ) → a ≡ 1 → 49 ≡ value_letter (value_of a b)
unfolding value_letter value_of
letter_1 a b e = rw e

pub letter_0 : (a b : ℕ) → a ≤ 1 → (a ≡ 1 → ⊥) → b ≡ 1 → 48 ≡ value_letter (value_of a b)
unfolding value_letter value_of
letter_0 a b h other e = let z : a ≡ 0 = omega arith in rw (z, e)

pub letter_x : (a b : ℕ) → a ≤ 1 → b ≤ 1 → (a ≡ 1 → ⊥) → (b ≡ 1 → ⊥) → 88 ≡ value_letter (value_of a b)
unfolding value_letter value_of
letter_x a b h k other none = let z : a ≡ 0 = omega arith in let y : b ≡ 0 = omega arith in rw (z, y)

-- the letter of one primary input
abbrev pub letter_at : VectorRecord → ℕ → ℕ
letter_at v i = value_letter (value_of (bit v.ones i) (bit v.zeros i))

-- a vector's record has places for 64 inputs
pub letters-are : (inputs used : ℕ) (v : VectorRecord) → used ≡ min inputs 64 → table used (letter_at v) ≡ map value_letter (vector_told inputs v)
unfolding vector_told
letters-are inputs used v e = rw e (sym (map-table value_letter (min inputs 64) (λ (i : ℕ). value_of (bit v.ones i) (bit v.zeros i))))
