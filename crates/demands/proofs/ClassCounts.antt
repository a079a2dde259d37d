-- Proves ClassesCountOnce, of demand 2: each class counts once.
use Prim.Native.Nat.{ℕ, suc, ◌<◌}
use mathlib.Core.Path.{◌≡◌, refl, sym, ap, ◌∙◌}
use mathlib.Core.Bool.{Bool}
use mathlib.Core.Logic.{◌↔◌}
use native.Mathlib.Omega.{arith}
use lib.Dec.{T}
use lib.ListN.{length, get_or}
use Rattle.words.specs.Bits.{of_bool, sum_to}
use Rattle.words.proofs.Laws.{of_bool_le_one, set-bit, bit-set}
use Rattle.circuit.specs.Circuit.{Circuit}
use Rattle.grading.specs.Rows.{no_row, rows_of}
use Rattle.grading.specs.Classes.{classes_of, class_found, found_by, class_count, found_count}
use Rattle.grading.specs.Grading as meant
use Rattle.grading.specs.Statements.{ClassNumbers}
use Rattle.grading.proofs.ClassNumbering.{class-numbers}
use Rattle.demands.specs.Calls.{Call}
use Rattle.demands.specs.Two.{row_at, OneClass, Found, ClassesTell, ClassesCountOnce}
use Rattle.demands.proofs.Gave.{Gave, gave, classes_counted, found_counted, class_is}
use Rattle.demands.proofs.Cells.{mark_is}
use Rattle.demands.proofs.FoundClasses.{Shown, found_is_shown}
use Rattle.demands.proofs.OneClass.{one-class-is-tested}

-- ---- a graded call

module _ (call : Call) (c : Circuit) (g : Gave call c) where
  -- what is found in the buffers is found in the circuit
  found_shown : (n : ℕ) → Found call c n ↔ Shown c n
  found_shown n = (
    λ f. record {
      place = f.cell.row;
      within = f.cell.is_row;
      of_class = sym (class_is call c g f.cell.row f.cell.is_row) ∙ f.of_class;
      vector = f.cell.vector;
      is_vector = f.cell.is_vector;
      mark = sym (mark_is call c g f.cell.row f.cell.vector f.cell.is_row f.cell.is_vector) ∙ f.mark;
    },
    λ s. record {
      cell = record { row = s.place; vector = s.vector; is_row = s.within; is_vector = s.is_vector };
      of_class = class_is call c g s.place s.within ∙ s.of_class;
      mark = mark_is call c g s.place s.vector s.within s.is_vector ∙ s.mark;
    },
  )

  abbrev class_found_at : ℕ → Bool
  class_found_at n = class_found c (suc n) (rows_of c) (classes_of (rows_of c))

  told : (n : ℕ) → T (class_found_at n) ↔ Found call c (suc n)
  told n = (
    λ t. (found_shown (suc n)).1 ((found_is_shown c (suc n)).0 t),
    λ f. (found_is_shown c (suc n)).1 ((found_shown (suc n)).0 f),
  )

  -- 1 for each class that is found, 0 for each other
  abbrev found_at : ℕ → ℕ
  found_at n = of_bool (class_found_at n)

  found_sum : found_count c ≡ sum_to (class_count c) found_at
  unfolding found_count found_by
  found_sum = refl

  same : (r s : ℕ) → r < length (rows_of c) → s < length (rows_of c)
      → (get_or (classes_of (rows_of c)) r 0 ≡ get_or (classes_of (rows_of c)) s 0) ↔ OneClass (row_at c r) (row_at c s)
  same r s h k =
      let numbers = (class-numbers c).same r s no_row h k in
      let tested = one-class-is-tested (row_at c r) (row_at c s) in
      (λ e. tested.1 (numbers.0 e), λ o. numbers.1 (tested.0 o))

  pub classes_tell : ClassesTell call c
  unfolding meant.counts_of_circuit
  classes_tell =
      let numbers : ClassNumbers c = class-numbers c in
      let class = class_is call c g in
      let count = classes_counted call c g in
      record {
        same = λ r s h k. rw (class r h, class s k) (same r s h k);
        low = λ r h. rw (class r h) (numbers.low r h);
        high = λ r h. rw (class r h, count) (numbers.high r h);
        each = λ n p q.
            let there = numbers.each n p (omega (arith, count)) in (there.0, there.1, class there.0 there.1 ∙ there.2);
        at_its_first_row = λ r n h p q.
            let there = numbers.at_its_first_row r n h p (omega (arith, class r h)) in
            (there.0, there.1, class there.0 (omega (arith, there.1)) ∙ there.2);
        found = (
          found_at,
          λ n. of_bool_le_one (class_found_at n),
          λ n. (λ e. (told n).0 (set-bit (class_found_at n) e), λ f. bit-set (class_found_at n) ((told n).1 f)),
          found_counted call c g ∙ rw count found_sum,
        );
        vectors = ap (λ (counts : meant.Counts). counts.vectors) g.counts_are;
        faults = ap (λ (counts : meant.Counts). counts.faults) g.counts_are;
      }

pub classes_count_once : ClassesCountOnce
classes_count_once call c given = classes_tell call c (gave call c given)
