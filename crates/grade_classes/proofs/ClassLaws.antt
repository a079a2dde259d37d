-- Keys and found classes as lists: a row's key, keys in the place of codes, and the count of the found classes.
-- What a count has left is a function of its place (`found_left`), which a loop keeps.
use mathlib.Core.Path.{◌≡◌, refl, sym, ap, ◌∙◌}
use mathlib.Core.List.{List, ◌++◌}
use Prim.Native.Nat.{ℕ, zero, suc, ◌+◌, ◌-◌, ◌≤◌, ◌<◌, max}
use native.Mathlib.Nat.{max-eq_left, sub-zero}
use native.Mathlib.Omega.{arith}
use lib.ListN.{length, get_or, set, take}
use lib.Seq.{get_or-take}
use borrow.Author.Tests.{eq-eqb, ne_eqb, lt-ltb, le-ltb}
use Rattle.words.specs.Tables.{table, up_to}
use Rattle.words.specs.Written.{written}
use Rattle.words.proofs.Tables.{length-table, table_cong, up-below}
use Rattle.words.proofs.WrittenLaws.{length_written, take_written, written_nothing, written_after, set_table_behind}
use Rattle.circuit.specs.Records.{unused_reference}
use Rattle.circuit.specs.declared.Reference.{Reference as ReferenceRecord}
use Rattle.grading.specs.Wires.{node_wire}
use Rattle.grading.specs.Codes.{kind_in, first_in, second_in, CodeFits}
use Rattle.grade_classes.specs.Model.{wire_number, reference_number, label_numbers, pair_key, key_of, keys_of, row_marked, found_from}

-- ---- found classes, those of the rows that are left

module _ (matrix classes : List ℕ) (to : ℕ) where
  unfoldable pub found_left : ℕ → ℕ → ℕ
  found_left r last = found_from matrix classes r (to - r) last

  pub found_begin : (last : ℕ) → found_left 0 last ≡ found_from matrix classes 0 to last
  unfolding found_left
  found_begin last = rw (sub-zero to)

  pub found_none : (last : ℕ) → found_left to last ≡ 0
  unfolding found_left found_from
  found_none last = let e : to - to ≡ 0 = omega arith in rw e

  module _ (r last : ℕ) (inside : r < to) where
    pub found_old : get_or classes r 0 ≤ last → found_left r last ≡ found_left (suc r) last
    unfolding found_left found_from
    found_old h =
        let e : to - r ≡ suc (to - suc r) = omega arith in rw (e, le-ltb last (get_or classes r 0) h, max-eq_left {n = last} {m = get_or classes r 0} h)

    module _ (new : last < get_or classes r 0) where
      top : max last (get_or classes r 0) ≡ get_or classes r 0
      top = omega arith

      pub found_marked : (row_marked matrix r ≡ 0 → ⊥) → found_left r last ≡ suc (found_left (suc r) (get_or classes r 0))
      unfolding found_left found_from
      found_marked h =
          let e : to - r ≡ suc (to - suc r) = omega arith in rw (e, lt-ltb last (get_or classes r 0) new, top, ne_eqb (row_marked matrix r) 0 h)

      pub found_unmarked : row_marked matrix r ≡ 0 → found_left r last ≡ found_left (suc r) (get_or classes r 0)
      unfolding found_left found_from
      found_unmarked h =
          let e : to - r ≡ suc (to - suc r) = omega arith in rw (e, lt-ltb last (get_or classes r 0) new, top, eq-eqb (row_marked matrix r) 0 h)

-- only the classes of those rows are looked at
pub found_front : (matrix classes : List ℕ) (n from left count : ℕ) → from + left ≤ n
    → found_from matrix (take n classes) from left count ≡ found_from matrix classes from left count
unfolding found_from
found_front matrix classes n from zero count h = refl
found_front matrix classes n from (suc left) count h =
    rw (
      get_or-take n classes from 0 (omega arith),
      found_front matrix classes n (suc from) left (max count (get_or classes from 0)) (omega arith),
    )

-- ---- the wires of the labels

pub labels-all : (references : List ReferenceRecord) (n : ℕ) → 12 ≤ n
    → table 12 (up_to n (λ (l : ℕ). reference_number (get_or references l unused_reference))) ≡ label_numbers references
unfolding label_numbers
labels-all references n h = table_cong 12 _ _ (λ l q. up-below n _ l (omega arith))

-- ---- a row's key

module _ (n output : ℕ) (labels : List ℕ) (code a b kind : ℕ) (a-is : a ≡ first_in code) (b-is : b ≡ second_in code)
    (kind_is : kind ≡ kind_in code) where
  pub key_nodes : kind ≡ 0 → pair_key (wire_number (node_wire n output a)) (wire_number (node_wire n output b)) ≡ key_of n output labels code
  unfolding key_of
  key_nodes k = rw (eq-eqb (kind_in code) 0 (sym kind_is ∙ k), a-is, b-is)

  pub key_labelled : (kind ≡ 0 → ⊥) → pair_key (wire_number (node_wire n output a)) (get_or labels b 0) ≡ key_of n output labels code
  unfolding key_of
  key_labelled k = rw (ne_eqb (kind_in code) 0 (λ e. k (kind_is ∙ e)), a-is, b-is)

  -- a row of kind 1 has a label
  pub label_there : CodeFits code → (kind ≡ 0 → ⊥) → b < 12
  unfolding CodeFits
  label_there fits k = omega (arith, b-is, fits.2 (ne_eqb (kind_in code) 0 (λ e. k (kind_is ∙ e))))

-- ---- keys in the place of codes

length-keys : (codes : List ℕ) (n output : ℕ) (labels : List ℕ) (from to : ℕ) → length (keys_of codes n output labels from to) ≡ to - from
unfolding keys_of
length-keys codes n output labels from to = length-table (to - from) _

module _ (codes : List ℕ) (n output : ℕ) (labels : List ℕ) (from : ℕ) where
  pub keyed_none : written codes from (keys_of codes n output labels from from) ≡ codes
  unfolding keys_of table
  keyed_none = let none : from - from ≡ 0 = omega arith in rw none (written_nothing codes from)

  -- the keys of the codes before r are written
  module _ (r : ℕ) (begun : from ≤ r) (inside : r < length codes) {codes' : List ℕ} (keyed : codes' ≡ written codes from (keys_of codes n output labels from r)) where
    -- code r is as it was
    pub code_kept : get_or codes' r 0 ≡ get_or codes r 0
    code_kept =
        let long = length-keys codes n output labels from r in
        rw keyed (written_after codes from (keys_of codes n output labels from r) (omega arith) r (omega arith))

    pub keyed_more : set codes' r (key_of n output labels (get_or codes' r 0)) ≡ written codes from (keys_of codes n output labels from (r + 1))
    unfolding keys_of
    keyed_more =
        let next : r + 1 - from ≡ suc (r - from) = omega arith in
        let place : from + (r - from) ≡ r = omega arith in
        rw (code_kept, keyed, next) (set_table_behind codes from (r - from) _ r _ (omega arith) inside (rw place))

-- the codes are as many as they were
module _ (codes : List ℕ) (n output : ℕ) (labels : List ℕ) (from to : ℕ) (order : (from ≤ to) × (to ≤ length codes)) where
  abbrev keys : List ℕ
  keys = keys_of codes n output labels from to

  end : to ≡ from + length keys
  end = omega (arith, length-keys codes n output labels from to, order)

  pub keyed_long : length (written codes from keys) ≡ length codes
  keyed_long = length_written codes from keys (omega (arith, end, order))

  -- up to the last of them stand those before and the keys
  pub keyed_take : take to (written codes from keys) ≡ take from codes ++ keys
  keyed_take = ap (λ (n : ℕ). take n (written codes from keys)) end ∙ take_written codes from keys (omega (arith, end, order))
