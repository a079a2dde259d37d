-- Found classes by the code's count: at the first row of each class the or of the row's four words tells whether it has a mark.
-- Assumes nothing.
use Prim.Native.Nat.{ℕ, zero, suc, ◌+◌, ◌*◌, ◌<◌, ◌≤◌, max}
use mathlib.Core.Path.{◌≡◌, sym, ap, ap₂, ◌∙◌}
use mathlib.Core.Bool.{Bool, true, false, cond, not, not-not}
use mathlib.Core.List.{List, [], ◌∷◌, ◌++◌, map}
use native.Mathlib.Nat.{zero-add, add-zero, add-suc, suc-add}
use native.Mathlib.Omega.{arith}
use lib.Dec.{eqb, ltb}
use lib.ListN.{length, get_or, take, drop, length-take, take-append-drop, get_or-append}
use lib.Seq.{take-suc, take-length, get_or_at}
use Rattle.words.specs.Bits.{of_bool, sum_to}
use Rattle.words.specs.Rows.{row_of}
use Rattle.words.proofs.AnyMark.{any_mark}
use Rattle.circuit.specs.Circuit.{Circuit, join_lists}
use Rattle.circuit.specs.Laws.{CircuitGood}
use Rattle.grading.specs.Rows.{Row, no_row, rows_of, mark_of, row_words}
use Rattle.grading.specs.Classes.{same_class, largest, classes_after_by, classes_by, classes_of, has_mark_by, has_mark, found_by, found_among, found_count}
use Rattle.grading.specs.Statements.{RowOf}
use Rattle.grading.proofs.Everywhere.{Every, every_at, every_first}
use Rattle.grading.proofs.MatrixLaws.{row_long, word_in}
use Rattle.grading.proofs.FoundLaws.{mark_le_one, found_more, same_mark}
use Rattle.grading.proofs.ClassLists.{class_of, length_classes, largest-append, classes_first, classes_snoc}
use Rattle.grade_classes.specs.Model.{row_marked, found_from}

-- the rows' words stand in a matrix, from its start on
abbrev pub WordsOf : Circuit → List Row → List ℕ → Type 0
WordsOf c rows matrix = (r w : ℕ) (none : Row) → r < length rows → w < 4 → get_or matrix (4 * r + w) 0 ≡ get_or (row_words c (get_or rows r none)) w 0

pub row-marked : (c : Circuit) → length c.vectors ≤ 256 → (rows : List Row) (matrix : List ℕ) → WordsOf c rows matrix
    → (r : ℕ) (none : Row) → r < length rows → eqb (row_marked matrix r) 0 ≡ not (has_mark c (get_or rows r none))
unfolding row_marked has_mark_by row_words
row-marked c few rows matrix words r none h =
    let row : Row = get_or rows r none in
    let f : ℕ → ℕ = mark_of c row in
    let vectors : ℕ = length c.vectors in
    let own : List ℕ = row_of vectors f in
    let place : 4 * r ≡ 4 * r + 0 = omega arith in
    let first : get_or matrix (4 * r) 0 ≡ get_or own 0 0 = ap (λ (p : ℕ). get_or matrix p 0) place ∙ words r 0 none h (omega arith) in
    rw (first, words r 1 none h (omega arith), words r 2 none h (omega arith), words r 3 none h (omega arith))
    (any_mark vectors f (mark_le_one c row) few)

-- ---- rows from one place on

sum-later : (new unmarked : Bool) (later : ℕ) → cond new (cond unmarked later (suc later)) later ≡ cond new (of_bool (not unmarked)) 0 + later
sum-later true true later = omega arith
sum-later true false later = omega arith
sum-later false unmarked later = omega arith

-- class numbers stand in a buffer, from its start on
abbrev pub ClassesOf : List Row → List ℕ → Type 0
ClassesOf rows classes = (r : ℕ) → r < length rows → get_or classes r 0 ≡ get_or (classes_of rows) r 0

module _ (c : Circuit) (good : CircuitGood c) (rows : List Row) (ours : Every (RowOf c) rows) (none : Row) where
  module _ (matrix classes : List ℕ) (words : WordsOf c rows matrix) (numbered : ClassesOf rows classes) where
    count_in : ℕ → ℕ
    count_in n = largest (classes_of (take n rows))

    found_in : ℕ → ℕ
    found_in n = found_among c (take n rows) (classes_of (take n rows)) (count_in n)

    first_ours : (n : ℕ) → Every (RowOf c) (take n rows)
    first_ours n = every_first (RowOf c) (take n rows) (drop n rows) (rw take-append-drop ours)

    module _ (n : ℕ) (h : n < length rows) where
      row : Row
      row = get_or rows n none

      number : ℕ
      number = class_of same_class row (take n rows) (classes_of (take n rows))

      classes_are : classes_of (take (suc n) rows) ≡ classes_of (take n rows) ++ (number ∷ [])
      unfolding row number count_in
      classes_are = ap classes_of (take-suc rows n none h) ∙ classes_snoc same_class (take n rows) (get_or rows n none)

      class_is : get_or classes n 0 ≡ number
      class_is =
          numbered n h
          ∙ classes_first same_class rows (suc n) n (omega arith) h
          ∙ ap (λ (l : List ℕ). get_or l n 0) classes_are
          ∙ get_or_at (classes_of (take n rows)) number [] 0 n (length_classes same_class (take n rows) ∙ omega (arith, length-take n rows))

      count_more : count_in (suc n) ≡ max (count_in n) (get_or classes n 0)
      unfolding count_in largest
      count_more = ap largest classes_are ∙ largest-append (classes_of (take n rows)) (number ∷ []) ∙ omega (arith, class_is)

      marked : of_bool (not (eqb (row_marked matrix n) 0)) ≡ of_bool (has_mark c row)
      unfolding row
      marked = rw (row-marked c good.few_vectors rows matrix words n none h) (ap of_bool (not-not (has_mark c row)))

      found_one : found_in (suc n) ≡ found_in n + cond (ltb (count_in n) (get_or classes n 0)) (of_bool (not (eqb (row_marked matrix n) 0))) 0
      unfolding found_in count_in row number
      found_one =
          ap (λ (l : List Row). found_among c l (classes_of (take (suc n) rows)) (count_in (suc n))) (take-suc rows n none h)
          ∙ ap₂ (found_among c (take n rows ++ (row ∷ []))) classes_are (count_more ∙ ap (max (count_in n)) class_is)
          ∙ found_more (length c.vectors) (mark_of c) (RowOf c) same_class (same_mark c good) (take n rows) (classes_of (take n rows)) (length_classes same_class (take n rows))
          (first_ours n) row (every_at (RowOf c) rows ours n none h)
          ∙ ap₂ (λ (k x : ℕ). found_in n + cond (ltb (count_in n) k) x 0) (sym class_is) (sym marked)

    found_on : (left from : ℕ) → from + left ≤ length rows → found_in (from + left) ≡ found_in from + found_from matrix classes from left (count_in from)
    unfolding found_from
    found_on zero from h = omega (arith, ap found_in (add-zero from))
    found_on (suc left) from h =
        let here : from < length rows = omega arith in
        let later : ℕ = found_from matrix classes (suc from) left (max (count_in from) (get_or classes from 0)) in
        omega (
          arith,
          ap found_in (add-suc from left ∙ sym (suc-add from left)),
          found_on left (suc from) (omega arith),
          ap (found_from matrix classes (suc from) left) (count_more from here),
          found_one from here,
          sum-later (ltb (count_in from) (get_or classes from 0)) (eqb (row_marked matrix from) 0) later,
        )

-- ---- all rows

pub found_all : (c : Circuit) → CircuitGood c → (matrix classes : List ℕ) → WordsOf c (rows_of c) matrix → ClassesOf (rows_of c) classes
    → found_count c ≡ found_from matrix classes 0 (length (rows_of c)) 0
unfolding found_in count_in found_count found_by classes_by classes_after_by largest sum_to
found_all c good matrix classes words numbered =
    let rows : List Row = rows_of c in
    let found : List Row → ℕ = λ (l : List Row). found_among c l (classes_of l) (largest (classes_of l)) in
    ap found (sym (take-length rows))
    ∙ ap (λ (n : ℕ). found (take n rows)) (sym (zero-add (length rows)))
    ∙ found_on c good rows (λ row m. m) no_row matrix classes words numbered (length rows) 0 (omega arith)
    ∙ zero-add (found_from matrix classes 0 (length rows) 0)

-- ---- buffers that begin with the rows' words, and with their numbers

pub words_are : (c : Circuit) (rows : List Row) (more : List ℕ) → WordsOf c rows (join_lists (map (row_words c) rows) ++ more)
words_are c rows more r w none = word_in (row_words c) (row_long c) none rows more r w

pub numbers_are : (rows : List Row) (more : List ℕ) → ClassesOf rows (classes_of rows ++ more)
numbers_are rows more r h = get_or-append (classes_of rows) more 0 r (omega (arith, length_classes same_class rows))
