-- Two calls that graded one circuit and meet the clause on classes have the same class numbers, the same number of classes and, where their
-- cells agree, of found ones. The numbers by the rows in order: if this row's were smaller in one call, the other would have it at an
-- earlier row, where both agree; so these two rows are one class, and have one number in the other call too.
use Prim.Native.Nat.{ℕ, zero, suc, ◌<◌, ◌≤◌}
use mathlib.Core.Path.{◌≡◌, sym, ap, ◌∙◌}
use native.Mathlib.Decide.{ℕ_discrete, dec_lt}
use native.Mathlib.Nat.{not-suc-le-zero}
use native.Mathlib.Omega.{arith}
use lib.ListN.{length}
use Rattle.words.specs.Bits.{sum_to}
use Rattle.words.proofs.Counting.{sum_cong}
use Rattle.circuit.specs.Circuit.{Circuit}
use Rattle.grading.specs.Rows.{rows_of}
use Rattle.grading.specs.Promise.{counts_of}
use Rattle.demands.specs.Calls.{Call, class_at}
use Rattle.demands.specs.Two.{row_at, MatrixCell, mark_in, OneClass, Found, ClassesTell}

-- the class of a row, and how many classes and found ones there are
abbrev class_in : Call → ℕ → ℕ
class_in call r = class_at call.after.classes r

abbrev classes_in : Call → ℕ
classes_in call = (counts_of call.answer).classes

abbrev found_in : Call → ℕ
found_in call = (counts_of call.answer).found

-- ---- one way

module _ (one other : Call) (c : Circuit) (tells : ClassesTell one c) (tells' : ClassesTell other c) where
  not_below : (r : ℕ) → r < length (rows_of c) → ((s : ℕ) → s < r → class_in one s ≡ class_in other s) → class_in one r < class_in other r → ⊥
  not_below r h before less =
      let there = tells'.at_its_first_row r (class_in one r) h (tells.low r h) less in
      let s : ℕ = there.0 in
      let s-is-row : s < length (rows_of c) = omega (arith, there.1) in
      let alike : OneClass (row_at c s) (row_at c r) = (tells.same s r s-is-row h).0 (before s there.1 ∙ there.2) in
      omega (arith, there.2, (tells'.same s r s-is-row h).1 alike)

  no_more_classes : ((r : ℕ) → r < length (rows_of c) → class_in one r ≡ class_in other r) → classes_in other < classes_in one → ⊥
  no_more_classes same less =
      let there = tells.each (classes_in one) (omega arith) (omega arith) in
      omega (arith, there.2, same there.0 there.1, tells'.high there.0 there.1)

  found_there : ((r : ℕ) → r < length (rows_of c) → class_in one r ≡ class_in other r)
      → ((at : MatrixCell c) → mark_in one at ≡ mark_in other at) → (n : ℕ) → Found one c n → Found other c n
  found_there same marks n found = record {
    cell = found.cell;
    of_class = sym (same found.cell.row found.cell.is_row) ∙ found.of_class;
    mark = sym (marks found.cell) ∙ found.mark;
  }

-- ---- both ways

same_flag : (a b : ℕ) → a ≤ 1 → b ≤ 1 → (a ≡ 1 → b ≡ 1) → (b ≡ 1 → a ≡ 1) → a ≡ b
same_flag a b few few' there back = go (ℕ_discrete a 1) (ℕ_discrete b 1)
  where
    go : Dec (a ≡ 1) → Dec (b ≡ 1) → a ≡ b
    go (yes e) q = e ∙ sym (there e)
    go (no e) (yes f) = back f ∙ sym f
    go (no e) (no f) = omega arith

module _ (one other : Call) (c : Circuit) (tells : ClassesTell one c) (tells' : ClassesTell other c) where
  same_next : (r : ℕ) → r < length (rows_of c) → ((s : ℕ) → s < r → class_in one s ≡ class_in other s) → class_in one r ≡ class_in other r
  same_next r h before =
      go (dec_lt (class_in one r) (class_in other r)) (dec_lt (class_in other r) (class_in one r))
    where
      go : Dec (class_in one r < class_in other r) → Dec (class_in other r < class_in one r) → class_in one r ≡ class_in other r
      go (yes l) q = absurd (not_below one other c tells tells' r h before l)
      go (no l) (yes k) = absurd (not_below other one c tells' tells r h (λ s q. sym (before s q)) k)
      go (no l) (no k) = omega arith

  same_below : (n r : ℕ) → r < n → r < length (rows_of c) → class_in one r ≡ class_in other r
  same_below zero r h k = absurd (not-suc-le-zero h)
  same_below (suc n) r h k = same_next r k (λ s l. same_below n s (omega arith) (omega arith))

  pub same_class_lem : (r : ℕ) → r < length (rows_of c) → class_in one r ≡ class_in other r
  same_class_lem r h = same_below (suc r) r (omega arith) h

  pub same_count : classes_in one ≡ classes_in other
  same_count = go (dec_lt (classes_in one) (classes_in other)) (dec_lt (classes_in other) (classes_in one))
    where
      go : Dec (classes_in one < classes_in other) → Dec (classes_in other < classes_in one) → classes_in one ≡ classes_in other
      go (yes l) q = absurd (no_more_classes other one c tells' tells (λ r h. sym (same_class_lem r h)) l)
      go (no l) (yes k) = absurd (no_more_classes one other c tells tells' same_class_lem k)
      go (no l) (no k) = omega arith

  pub same_found : ((at : MatrixCell c) → mark_in one at ≡ mark_in other at) → found_in one ≡ found_in other
  same_found marks =
      tells.found.3
      ∙ ap (λ (n : ℕ). sum_to n tells.found.0) same_count
      ∙ sum_cong (classes_in other) tells.found.0 tells'.found.0
      (λ n h. same_flag _ _ (tells.found.1 n) (tells'.found.1 n) (there n) (back n))
      ∙ sym tells'.found.3
    where
      there : (n : ℕ) → tells.found.0 n ≡ 1 → tells'.found.0 n ≡ 1
      there n e = (tells'.found.2 n).1 (found_there one other c tells tells' same_class_lem marks (suc n) ((tells.found.2 n).0 e))

      back : (n : ℕ) → tells'.found.0 n ≡ 1 → tells.found.0 n ≡ 1
      back n e =
          (tells.found.2 n).1
          (found_there other one c tells' tells (λ r k. sym (same_class_lem r k)) (λ at. sym (marks at)) (suc n) ((tells'.found.2 n).0 e))
