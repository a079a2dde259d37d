-- The laws of an instance's references: their bytes, their number, when all of them are good, and how they and the choice stand in the code's record.
use Prim.Native.Nat.{ℕ, zero, suc, ◌+◌, ◌-◌, ◌*◌, ◌/◌, ◌<◌, ◌≤◌}
use mathlib.Core.Path.{◌≡◌, refl, sym}
use mathlib.Core.Bool.{Bool, true, false, cond}
use mathlib.Core.List.{List, [], ◌∷◌, ◌++◌, map, map-append}
use native.Mathlib.Numerals.{add-one}
use native.Mathlib.Omega.{arith}
use lib.Dec.{T, ltb, eqb→eq}
use lib.Ieee.Bits.{is_true}
use lib.ListN.{length, get_or, take, replicate, set, length-take, length-map}
use lib.Seq.{take-suc, take_all}
use Rattle.std.specs.Prelude.{Some, None}
use Rattle.std.proofs.lemmas.Option.{none-some}
use Rattle.words.proofs.Tables.{length-table, get_or-table}
use Rattle.switch.specs.Modules.{all_of}
use Rattle.switch.proofs.Deciding.{all_of_lem}
use Rattle.circuit.specs.Fields.{two_bytes}
use Rattle.circuit.specs.Circuit.{Reference, primary}
use Rattle.circuit.specs.Numbers.{plus, minus, signed, choice_of, choice_in_range, reference_of, reference_good}
use Rattle.circuit.specs.Known.{references_in}
use Rattle.circuit.specs.Records.{padded, unused_reference, reference_record, choice_byte}
use Rattle.circuit.specs.declared.Reference.{Reference as ReferenceRecord}
use Rattle.circuit.proofs.Padding.{padded_nil, padded_snoc}

-- what is given only where a test holds, and is not
pub cond_none : {A : Type 0} (b : Bool) (a : A) → cond b (Some a) None ≡ None → b ≡ false
cond_none true a e = absurd (none-some a (sym e))
cond_none false a e = refl

-- ---- references

-- the reference in the two bytes at a place
abbrev pub reference_at : List ℕ → ℕ → Reference
reference_at body i = reference_of (signed 32768 (two_bytes body (2 + 2 * i)))

pub length-references : (body : List ℕ) → length (references_in body) ≡ (length body - 2) / 2
unfolding references_in
length-references body = length-table ((length body - 2) / 2) (reference_at body)

at-references : (body : List ℕ) (i : ℕ) → i < (length body - 2) / 2 → get_or (references_in body) i (primary 0) ≡ reference_at body i
unfolding references_in
at-references body i h = get_or-table ((length body - 2) / 2) (reference_at body) (primary 0) i h

is_false : (b : Bool) → (T b → ⊥) → b ≡ false
is_false true t = absurd (t tt)
is_false false t = refl

-- all references are good when each is, and not when one is not
module _ (P before : ℕ) (body : List ℕ) where
  pub good_at : T (all_of (reference_good P before) (references_in body)) → (i : ℕ) → i < (length body - 2) / 2 → T (reference_good P before (reference_at body i))
  good_at t i h =
      rw (at-references body i h) at
      ((all_of_lem (reference_good P before) (primary 0) (references_in body)).0 t i (omega (arith, length-references body)))

  pub all_good : ((i : ℕ) → i < (length body - 2) / 2 → reference_good P before (reference_at body i) ≡ true)
      → all_of (reference_good P before) (references_in body) ≡ true
  all_good h =
      is_true (all_of (reference_good P before) (references_in body))
      ((all_of_lem (reference_good P before) (primary 0) (references_in body)).1
      (λ i q. let p : i < (length body - 2) / 2 = omega (arith, length-references body) in rw (at-references body i p, h i p) tt))

  pub one_bad : (i : ℕ) → i < (length body - 2) / 2 → reference_good P before (reference_at body i) ≡ false
      → all_of (reference_good P before) (references_in body) ≡ false
  one_bad i h e = is_false (all_of (reference_good P before) (references_in body)) (λ t. rw e at (good_at t i h))

-- ---- the record of an instance

-- the places for references when the first i are filled
abbrev pub filled : List ℕ → ℕ → List ReferenceRecord
filled body i = padded 12 unused_reference (map reference_record (take i (references_in body)))

module _ (body : List ℕ) where
  pub none_filled : replicate 12 unused_reference ≡ filled body 0
  none_filled = sym (padded_nil unused_reference 12)

  pub one_filled : (i : ℕ) → i < (length body - 2) / 2 → i < 12 → set (filled body i) i (reference_record (reference_at body i)) ≡ filled body (i + 1)
  one_filled i h q =
      let refs = references_in body in
      let before = map reference_record (take i refs) in
      let long : length before ≡ i = omega (arith, length-map (take i refs) reference_record, length-take i refs, length-references body) in
      let added = padded_snoc unused_reference 12 before (reference_record (reference_at body i)) (omega arith) in
      let one : take (i + 1) refs ≡ take i refs ++ (reference_at body i ∷ []) =
      rw (add-one, take-suc refs i (primary 0) (omega (arith, length-references body)), at-references body i h) in
      rw (one, map-append) (rw long at added)

  pub all_filled : (i : ℕ) → (length body - 2) / 2 ≤ i → filled body i ≡ padded 12 unused_reference (map reference_record (references_in body))
  all_filled i h = rw (take_all i (references_in body) (omega (arith, length-references body)))

-- a choice in range is kept as its byte
pub choice-kept : (b : ℕ) → b < 256 → T (choice_in_range (signed 128 b)) → choice_byte (choice_of (signed 128 b)) ≡ b
unfolding signed choice_in_range choice_of choice_byte
choice-kept b small t = go (ltb b 128) refl t
  where
    plain : (n : ℕ) → choice_byte (choice_of (plus n)) ≡ n
    plain zero = refl
    plain (suc n) = refl

    go : (low : Bool) → ltb b 128 ≡ low → T (choice_in_range (cond low (plus b) (minus (256 - b))))
        → choice_byte (choice_of (cond low (plus b) (minus (256 - b)))) ≡ b
    go true e q = plain b
    go false e q = omega (arith, eqb→eq (256 - b) 1 q)
