-- Demand 3 of graders that differ in their marks alone: what a call leaves and counts; more marks find no fewer classes; and so what of the demand holds
-- by marks that stand where vectors are refined, by marks wherever a path is, and by marks only where one is. Assumes nothing.
use Prim.Native.Nat.{ℕ, zero, suc, ◌*◌, ◌/◌, ◌≤◌, ◌<◌}
use mathlib.Core.Path.{◌≡◌, refl, sym, ap, subst, ◌∙◌}
use mathlib.Core.Bool.{Bool, true, false, cond, ◌&&◌, ◌||◌}
use mathlib.Core.List.{List, [], ◌∷◌, map}
use native.Mathlib.Omega.{arith}
use borrow.Author.Tests.{lt-ltb}
use lib.Dec.{T, eqb, ltb, ltb→lt}
use lib.ListN.{length, get_or, drop}
use Rattle.words.specs.Bits.{of_bool, sum_to}
use Rattle.words.specs.Rows.{mark_at, row_of}
use Rattle.words.proofs.Laws.{of_bool_le_one, of_bool_le, set-bit, bit-set}
use Rattle.words.proofs.Sums.{sum_part, sum-some}
use Rattle.words.proofs.Tables.{up-below}
use Rattle.words.proofs.Rows.{row-mark}
use Rattle.circuit.specs.Circuit.{Circuit, join_lists}
use Rattle.circuit.specs.Reading.{Reading}
use Rattle.circuit.proofs.CircuitLaws.{accepted-is-good}
use Rattle.grading.specs.Buffers.{Buffers, room_of}
use Rattle.grading.specs.Rows.{Row, no_row, rows_of, cell, mark_of}
use Rattle.grading.specs.Classes.{same_class, largest, classes_of, has_mark_by, class_found_by, found_by, found_count}
use Rattle.grading.specs.Grading.{Grading, graded, refused, grading_of, grading_of_circuit, after_reading, over}
use Rattle.grading.specs.Promise.{is_graded, counts_of}
use Rattle.grading.proofs.MatrixLaws.{word_in}
use Rattle.demands.specs.Calls.{Accepts, cell_at}
use Rattle.demands.specs.Two.{vector_of, row_at, AlikeButVectors}
use Rattle.demands.specs.Three.{Refined}
use Rattle.demands.specs.Graders.{refusing, Work, outcome_of, grades_by, work_by}
use Rattle.demands.specs.Wrong.{marking}
use Rattle.demands.specs.Breaks.{MeetsThree, MeetsThreeByPaths, MeetsFillings, MarksThatStand}
use Rattle.demands.proofs.Cells.{cell_decides}
use Rattle.demands.proofs.Columns.{same_rows}
use Rattle.demands.proofs.Refining.{path_stays}

-- ---- a call that graded

module _ (work : Circuit → Work) (before : Buffers) where
  abbrev Answers : Grading → Type 0
  Answers g = T (is_graded (outcome_of work g before).answer)

  not_short : (c : Circuit) (a b : Bool) (needed faults : ℕ) → Answers (cond a (refused 15 needed) (cond b (refused 22 faults) (graded c)))
      → cond a (refused 15 needed) (cond b (refused 22 faults) (graded c)) ≡ graded c
  unfolding outcome_of refusing
  not_short c true b needed faults t = absurd t
  not_short c false true needed faults t = absurd t
  not_short c false false needed faults t = refl

  outcome_is : (file : List ℕ) (c : Circuit) → Accepts file c → T (is_graded (grades_by work file before).answer)
      → grades_by work file before ≡ outcome_of work (graded c) before
  unfolding grades_by grading_of after_reading grading_of_circuit
  outcome_is file c accepts t =
      ap (λ (read : Reading). outcome_of work (after_reading read (room_of before)) before) accepts
      ∙ ap (λ (g : Grading). outcome_of work g before)
      (not_short c (ltb (length before.matrix) (4 * length (rows_of c))) (ltb (length before.classes) (length (rows_of c))) _ _
      (subst (λ (read : Reading). Answers (after_reading read (room_of before))) accepts t))

-- ---- its cells and its found count

module _ (marks : Circuit → Row → ℕ → ℕ) (bits : (c : Circuit) (row : Row) (v : ℕ) → marks c row v ≤ 1) where
  abbrev found_with : Circuit → ℕ
  found_with c = found_by (length c.vectors) (marks c) (rows_of c) (classes_of (rows_of c)) (largest (classes_of (rows_of c)))

  module _ (file : List ℕ) (before : Buffers) (c : Circuit) (accepts : Accepts file c) (t : T (is_graded (marking marks file before).answer)) where
    abbrev packed : Row → List ℕ
    packed row = row_of (length c.vectors) (marks c row)

    packed_long : (row : Row) → length (packed row) ≡ 4
    unfolding row_of
    packed_long row = refl

    pub cell_is : (r v : ℕ) → r < length (rows_of c) → v < length c.vectors
        → cell_at (marking marks file before).after.matrix r v ≡ marks c (row_at c r) v
    unfolding cell_at outcome_of work_by over mark_at
    cell_is r v h k =
        let few = (accepted-is-good true file c accepts).few_vectors in
        rw (
          outcome_is (work_by row_of marks same_class) before file c accepts t,
          word_in packed packed_long no_row (rows_of c) (drop (length (join_lists (map packed (rows_of c)))) before.matrix) r (v / 64) h (omega arith),
        )
        (row-mark (length c.vectors) (marks c (row_at c r)) (bits c (row_at c r)) v (omega arith)
        ∙ up-below (length c.vectors) (marks c (row_at c r)) v k)

    pub found_is : (counts_of (marking marks file before).answer).found ≡ found_with c
    unfolding outcome_of work_by
    found_is = rw (outcome_is (work_by row_of marks same_class) before file c accepts t)

-- ---- more marks find no fewer classes

sum_grows : (n : ℕ) (f g : ℕ → ℕ) → ((v : ℕ) → f v ≤ g v) → sum_to n f ≤ sum_to n g
unfolding sum_to
sum_grows zero f g le = omega arith
sum_grows (suc n) f g le = omega (arith, le 0, sum_grows n (λ (v : ℕ). f (suc v)) (λ (v : ℕ). g (suc v)) (λ v. le (suc v)))

both_grow : (a b b' z z' : Bool) → (T b → T b') → (T z → T z') → T (a && b || z) → T (a && b' || z')
both_grow true b true z z' f g t = tt
both_grow true true false z z' f g t = absurd (f tt)
both_grow true false false z z' f g t = g t
both_grow false b b' z z' f g t = g t

module _ (n m : ℕ) (f g : Row → ℕ → ℕ) (no_fewer : n ≤ m) (le : (row : Row) (v : ℕ) → v < n → f row v ≤ g row v) where
  mark_grows : (row : Row) → T (has_mark_by n f row) → T (has_mark_by m g row)
  unfolding has_mark_by
  mark_grows row t =
      let some = sum-some n (f row) (ltb→lt 0 (sum_to n (f row)) t) in
      let v = some.0 in
      rw (lt-ltb 0 (sum_to m (g row)) (omega (arith, some.2, le row v some.1, sum_part m (g row) v (omega (arith, some.1))))) tt

  class_grows : (k : ℕ) (rows : List Row) (classes : List ℕ) → T (class_found_by n f k rows classes) → T (class_found_by m g k rows classes)
  unfolding class_found_by
  class_grows k [] classes t = t
  class_grows k (r ∷ rs) [] t = t
  class_grows k (r ∷ rs) (c ∷ cs) t = both_grow (eqb c k) (has_mark_by n f r) (has_mark_by m g r) _ _ (mark_grows r) (class_grows k rs cs) t

  pub found_grows : (rows : List Row) (classes : List ℕ) (count : ℕ) → found_by n f rows classes count ≤ found_by m g rows classes count
  unfolding found_by
  found_grows rows classes count =
      sum_grows count _ _
      (λ k. of_bool_le (class_found_by n f (suc k) rows classes) (class_found_by m g (suc k) rows classes) (class_grows (suc k) rows classes))

-- ---- demand 3

module _ (marks : Circuit → Row → ℕ → ℕ) (bits : (c : Circuit) (row : Row) (v : ℕ) → marks c row v ≤ 1) where
  -- the found count over the rows and classes of a circuit that is alike
  found_alike : (file : List ℕ) (before : Buffers) (c d : Circuit) → Accepts file d → T (is_graded (marking marks file before).answer)
      → AlikeButVectors c d
      → (counts_of (marking marks file before).answer).found
      ≡ found_by (length d.vectors) (marks d) (rows_of c) (classes_of (rows_of c)) (largest (classes_of (rows_of c)))
  found_alike file before c d accepts t alike =
      found_is marks bits file before d accepts t
      ∙ ap (λ (rows : List Row). found_by (length d.vectors) (marks d) rows (classes_of rows) (largest (classes_of rows))) (sym (same_rows c d alike))

  -- and the cell of a row of it
  cell_alike : (file : List ℕ) (before : Buffers) (c d : Circuit) → Accepts file d → T (is_graded (marking marks file before).answer)
      → AlikeButVectors c d → (r v : ℕ) → r < length (rows_of c) → v < length d.vectors
      → cell_at (marking marks file before).after.matrix r v ≡ marks d (row_at c r) v
  cell_alike file before c d accepts t alike r v h k =
      let rows = same_rows c d alike in
      cell_is marks bits file before d accepts t r v (rw rows at h) k
      ∙ ap (λ (rs : List Row). marks d (get_or rs r no_row) v) (sym rows)

  pub marks_above : ((file : List ℕ) (c d : Circuit) → Accepts file c → AlikeButVectors c d → Refined c.vectors d.vectors
      → (row : Row) (v : ℕ) → v < length c.vectors → mark_of c row v ≤ marks d row v) → MeetsThreeByPaths (marking marks)
  unfolding mark_of found_count
  marks_above above first file before c d accepts accepts' t alike refined =
      let more = above first c d accepts alike refined in
      record {
        marks = λ at path.
            let row = row_at c at.row in
            let v = at.vector in
            omega (
              arith,
              cell_alike file before c d accepts' t alike at.row v at.is_row (omega (arith, at.is_vector, refined.no_fewer)),
              bit-set (cell c (vector_of c v) row) ((cell_decides c (vector_of c v) row).0 path),
              more row v at.is_vector,
              bits d row v,
            );
        found = rw (found_alike file before c d accepts' t alike)
            (found_grows (length c.vectors) (length d.vectors) (mark_of c) (marks d) refined.no_fewer more (rows_of c) _ _);
      }

  pub marks_below : ((c : Circuit) (row : Row) (v : ℕ) → marks c row v ≤ mark_of c row v) → MeetsFillings (marking marks)
  unfolding mark_of
  marks_below below file before c accepts t at mark filling fills =
      let row = row_at c at.row in
      let v = at.vector in
      let marked = cell_is marks bits file before c accepts t at.row v at.is_row at.is_vector in
      let here : of_bool (cell c (vector_of c v) row) ≡ 1 =
      omega (arith, mark, marked, below c row v, of_bool_le_one (cell c (vector_of c v) row)) in
      path_stays (vector_of c v) filling fills.keeps c (accepted-is-good true file c accepts) row
      ((cell_decides c (vector_of c v) row).1 (set-bit (cell c (vector_of c v) row) here))

pub by_marks_that_stand : (marks : Circuit → Row → ℕ → ℕ) → MarksThatStand marks → MeetsThree (marking marks)
by_marks_that_stand marks those file before file' before' c d accepts t accepts' t' alike refined =
    let bits = those.bits in
    let stand = those.stand file c d accepts alike refined in
    record {
      marks = λ at e.
          let row = row_at c at.row in
          let v = at.vector in
          omega (
            arith,
            e,
            cell_is marks bits file before c accepts t at.row v at.is_row at.is_vector,
            cell_alike marks bits file' before' c d accepts' t' alike at.row v at.is_row (omega (arith, at.is_vector, refined.no_fewer)),
            stand row v at.is_vector,
            bits d row v,
          );
      found = rw (found_is marks bits file before c accepts t, found_alike marks bits file' before' c d accepts' t' alike)
          (found_grows (length c.vectors) (length d.vectors) (marks c) (marks d) refined.no_fewer stand (rows_of c) _ _);
    }
