-- A class is found exactly when some row of it has a mark under some vector. Assumes nothing.
use Prim.Native.Nat.{ℕ, suc, ◌<◌}
use mathlib.Core.Path.{◌≡◌}
use mathlib.Core.Bool.{true, ◌&&◌}
use mathlib.Core.Logic.{⊎_elim, ◌↔◌}
use mathlib.Core.List.{List, [], ◌∷◌}
use native.Mathlib.Omega.{arith}
use borrow.Author.Tests.{lt-ltb}
use lib.Dec.{T, eqb, eqb→eq, ltb→lt}
use lib.ListN.{length, get_or}
use Rattle.words.specs.Bits.{sum_to}
use Rattle.words.proofs.Sums.{sum_part, sum-some}
use Rattle.switch.proofs.Paths.{both}
use Rattle.circuit.specs.Circuit.{Circuit}
use Rattle.circuit.proofs.Tested.{holds}
use Rattle.grading.specs.Rows.{Row, no_row, rows_of, mark_of}
use Rattle.grading.specs.Classes.{classes_of, has_mark_by, has_mark, class_found_by, class_found}
use Rattle.grading.proofs.ClassNumbering.{class-numbers}
use Rattle.grading.proofs.FoundLaws.{mark_le_one, found_by_lem}
use Rattle.grading.proofs.OrTests.{or_cases}

-- ---- a row's marks

module _ (c : Circuit) (row : Row) where
  has_mark_lem : T (has_mark c row) → (v : ℕ) × (v < length c.vectors) × (mark_of c row v ≡ 1)
  unfolding has_mark_by
  has_mark_lem t =
      let found = sum-some (length c.vectors) (mark_of c row) (ltb→lt 0 (sum_to (length c.vectors) (mark_of c row)) t) in
      (found.0, found.1, omega (arith, found.2, mark_le_one c row found.0))

  mark_had : (v : ℕ) → v < length c.vectors → mark_of c row v ≡ 1 → has_mark c row ≡ true
  unfolding has_mark_by
  mark_had v h e = lt-ltb 0 (sum_to (length c.vectors) (mark_of c row)) (omega (arith, sum_part (length c.vectors) (mark_of c row) v h))

-- ---- found classes

module _ (c : Circuit) where
  -- a row of class n, and a vector that marks it
  pub record ShownIn (n : ℕ) (rows : List Row) (classes : List ℕ) : Type 0 where
    pub place : ℕ
    pub within : place < length rows
    pub of_class : get_or classes place 0 ≡ n
    pub vector : ℕ
    pub is_vector : vector < length c.vectors
    pub mark : mark_of c (get_or rows place no_row) vector ≡ 1

  found_shown : (n : ℕ) (rows : List Row) (classes : List ℕ) → T (class_found c n rows classes) → ShownIn n rows classes
  unfolding class_found_by
  found_shown n [] classes t = absurd t
  found_shown n (r ∷ rs) [] t = absurd t
  found_shown n (r ∷ rs) (m ∷ ms) t =
      ⊎_elim here (λ s. later (found_shown n rs ms s)) (or_cases (eqb m n && has_mark c r) (class_found c n rs ms) t)
    where
      here : T (eqb m n && has_mark c r) → ShownIn n (r ∷ rs) (m ∷ ms)
      here s =
          let parts = both (eqb m n) (has_mark c r) s in
          let marked = has_mark_lem c r parts.1 in
          record {
            place = 0;
            within = omega arith;
            of_class = eqb→eq m n parts.0;
            vector = marked.0;
            is_vector = marked.1;
            mark = marked.2;
          }

      later : ShownIn n rs ms → ShownIn n (r ∷ rs) (m ∷ ms)
      later s = record {
        place = suc s.place;
        within = omega (arith, s.within);
        of_class = s.of_class;
        vector = s.vector;
        is_vector = s.is_vector;
        mark = s.mark;
      }

  abbrev pub Shown : ℕ → Type 0
  Shown n = ShownIn n (rows_of c) (classes_of (rows_of c))

  pub found_is_shown : (n : ℕ) → T (class_found c n (rows_of c) (classes_of (rows_of c))) ↔ Shown n
  found_is_shown n = (
    found_shown n (rows_of c) (classes_of (rows_of c)),
    λ s.
        holds (class_found c n (rows_of c) (classes_of (rows_of c)))
        (found_by_lem (length c.vectors) (mark_of c) n (rows_of c) (classes_of (rows_of c)) no_row s.place s.within (class-numbers c).one_each s.of_class
        (mark_had c (get_or (rows_of c) s.place no_row) s.vector s.is_vector s.mark)),
  )
