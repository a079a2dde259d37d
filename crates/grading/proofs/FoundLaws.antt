-- Found classes, row by row, by any test for one class and any marks: a class is found exactly when its first row has a mark, where rows of one class have
-- marks together. So in a circuit. Assumes nothing.
use Prim.Native.Nat.{ℕ, zero, suc, ◌+◌, ◌<◌, ◌≤◌, max}
use mathlib.Core.Path.{◌≡◌, refl, sym, ap, ap₂, ◌∙◌}
use mathlib.Core.Bool.{Bool, true, false, cond, ◌&&◌, ◌||◌, or_assoc, or-true, or-false}
use mathlib.Core.Logic.{⊎_elim}
use mathlib.Core.List.{List, [], ◌∷◌, ◌++◌}
use native.Mathlib.Omega.{arith}
use borrow.Author.Tests.{eqb-true, eq-eqb, ne_eqb, lt-ltb, le-ltb}
use lib.Dec.{T, eqb, ltb}
use lib.ListN.{length, get_or}
use Rattle.words.specs.Bits.{of_bool, sum_to}
use Rattle.words.proofs.Laws.{of_bool_le_one}
use Rattle.words.proofs.Counting.{sum_cong, sum_snoc}
use Rattle.circuit.specs.Circuit.{Circuit}
use Rattle.circuit.specs.Laws.{CircuitGood}
use Rattle.grading.specs.Rows.{Row, cell, mark_of}
use Rattle.grading.specs.Classes.{same_class, largest, has_mark_by, has_mark, class_found_by, found_by}
use Rattle.grading.specs.Statements.{RowOf}
use Rattle.grading.proofs.Everywhere.{Every, every_at}
use Rattle.grading.proofs.SameClass.{classes_have_equal_marks}
use Rattle.grading.proofs.ClassLists.{class_of, at-most-largest}
use Rattle.grading.proofs.ClassNumbering.{Matched, Fresh, searched}

-- a row has a mark under a vector, or none
pub mark_le_one : (c : Circuit) (row : Row) (v : ℕ) → mark_of c row v ≤ 1
unfolding mark_of
mark_le_one c row v = of_bool_le_one (cell c (get_or c.vectors v []) row)

-- ---- by the marks of rows under so many vectors

module _ {A : Type 0} (vectors : ℕ) (marks : A → ℕ → ℕ) where
  abbrev marked : A → Bool
  marked = has_mark_by vectors marks

  abbrev is_found : ℕ → List A → List ℕ → Bool
  is_found = class_found_by vectors marks

  found_snoc : (n : ℕ) (rows : List A) (classes : List ℕ) (row : A) (class : ℕ) → length classes ≡ length rows
      → is_found n (rows ++ (row ∷ [])) (classes ++ (class ∷ [])) ≡ (is_found n rows classes || eqb class n && marked row)
  unfolding class_found_by
  found_snoc n [] [] row class e = or-false (eqb class n && marked row)
  found_snoc n [] (m ∷ ms) row class e = absurd (omega arith)
  found_snoc n (r ∷ rs) [] row class e = absurd (omega arith)
  found_snoc n (r ∷ rs) (m ∷ ms) row class e =
      ap (λ (b : Bool). eqb m n && marked r || b) (found_snoc n rs ms row class (omega arith))
      ∙ sym (or_assoc (eqb m n && marked r) (is_found n rs ms) (eqb class n && marked row))

  -- past the largest number there is no class
  not_found : (n : ℕ) (rows : List A) (classes : List ℕ) → largest classes < n → is_found n rows classes ≡ false
  unfolding class_found_by largest
  not_found n [] classes h = refl
  not_found n (r ∷ rs) [] h = refl
  not_found n (r ∷ rs) (m ∷ ms) h = rw (ne_eqb m n (omega arith), not_found n rs ms (omega arith))

  -- a class is found where one of its rows has a mark
  pub found_by_lem : (n : ℕ) (rows : List A) (classes : List ℕ) (none : A) (r : ℕ) → r < length rows → length classes ≡ length rows
      → get_or classes r 0 ≡ n → marked (get_or rows r none) ≡ true → is_found n rows classes ≡ true
  unfolding class_found_by
  found_by_lem n [] classes none r h e p m = absurd (omega arith)
  found_by_lem n (s ∷ ss) [] none r h e p m = absurd (omega arith)
  found_by_lem n (s ∷ ss) (k ∷ ks) none zero h e p m = rw (eq-eqb k n p, m)
  found_by_lem n (s ∷ ss) (k ∷ ks) none (suc r) h e p m =
      ap (λ (b : Bool). eqb k n && marked s || b) (found_by_lem n ss ks none r (omega arith) (omega arith) p m) ∙ or-true (eqb k n && marked s)

  -- ---- one row more

  module _ (P : A → Type 0) (same : A → A → Bool) (together : (r s : A) → P r → P s → T (same r s) → marked r ≡ marked s)
      (rows : List A) (classes : List ℕ) (long : length classes ≡ length rows) (ours : Every P rows) (row : A) (own : P row) where
    abbrev count : ℕ
    count = largest classes

    abbrev class : ℕ
    class = class_of same row rows classes

    abbrev found_at : ℕ → ℕ
    found_at n = of_bool (is_found (suc n) rows classes)

    abbrev found_at⁺ : ℕ → ℕ
    found_at⁺ n = of_bool (is_found (suc n) (rows ++ (row ∷ [])) (classes ++ (class ∷ [])))

    abbrev Old : Type 0
    Old = Matched same row row rows classes class

    abbrev New : Type 0
    New = Fresh same row row rows (suc count) class

    matched_same : Old → (n : ℕ) → found_at⁺ n ≡ found_at n
    matched_same m n = ap of_bool (found_snoc (suc n) rows classes row class long ∙ go (eqb class (suc n)) refl (marked row) refl)
      where
        go : (x : Bool) → eqb class (suc n) ≡ x → (y : Bool) → marked row ≡ y → (is_found (suc n) rows classes || x && y) ≡ is_found (suc n) rows classes
        go true p true q =
            let earlier : marked (get_or rows m.place row) ≡ true =
            together (get_or rows m.place row) row (every_at P rows ours m.place row m.within) own m.matches ∙ q in
            rw (found_by_lem (suc n) rows classes row m.place m.within long (sym m.class_is ∙ eqb-true class (suc n) p) earlier)
        go true p false q = or-false (is_found (suc n) rows classes)
        go false p y q = or-false (is_found (suc n) rows classes)

    -- a new class is found when its first row has a mark
    pub found_more : found_by vectors marks (rows ++ (row ∷ [])) (classes ++ (class ∷ [])) (max count class)
        ≡ found_by vectors marks rows classes count + cond (ltb count class) (of_bool (marked row)) 0
    unfolding found_by
    found_more = ⊎_elim matched fresh (searched same row row (suc count) rows classes long)
      where
        matched : Old → sum_to (max count class) found_at⁺ ≡ sum_to count found_at + cond (ltb count class) (of_bool (marked row)) 0
        matched m =
            let most : class ≤ count = omega (arith, m.class_is, at-most-largest classes m.place) in
            let same_count : max count class ≡ count = omega arith in
            rw (same_count, le-ltb count class most) (omega (arith, sum_cong count found_at⁺ found_at (λ n h. matched_same m n)))

        fresh : New → sum_to (max count class) found_at⁺ ≡ sum_to count found_at + cond (ltb count class) (of_bool (marked row)) 0
        fresh f =
            let more : max count class ≡ suc count = omega (arith, f.class_is) in
            let old : (n : ℕ) → n < count → found_at⁺ n ≡ found_at n = λ n h.
            ap of_bool
            (found_snoc (suc n) rows classes row class long
            ∙ ap (λ (x : Bool). is_found (suc n) rows classes || x && marked row) (ne_eqb class (suc n) (omega (arith, f.class_is)))
            ∙ or-false (is_found (suc n) rows classes)) in
            let last : found_at⁺ count ≡ of_bool (marked row) =
            ap of_bool
            (found_snoc (suc count) rows classes row class long
            ∙ ap₂ (λ (x y : Bool). x || y && marked row) (not_found (suc count) rows classes (omega arith)) (eq-eqb class (suc count) f.class_is)) in
            rw (more, lt-ltb count class (omega (arith, f.class_is))) (omega (arith, sum_snoc count found_at⁺, sum_cong count found_at⁺ found_at old, last))

-- ---- in a circuit

pub same_mark : (c : Circuit) → CircuitGood c → (r s : Row) → RowOf c r → RowOf c s → T (same_class r s) → has_mark c r ≡ has_mark c s
unfolding has_mark_by mark_of
same_mark c good r s p q t =
    ap (ltb 0)
    (sum_cong (length c.vectors) (mark_of c r) (mark_of c s) (λ v h. ap of_bool (classes_have_equal_marks c good r s p q t (get_or c.vectors v []))))
