-- Class numbers as a list, by any test for one class: how many there are, that each is at most the number of rows so far, and that later rows change none;
-- and that equal keys give equal numbers. Assumes nothing.
use Prim.Native.Nat.{ℕ, zero, suc, ◌+◌, ◌<◌, ◌≤◌, max}
use mathlib.Core.Path.{◌≡◌, refl, sym, ap, ◌∙◌}
use mathlib.Core.Bool.{Bool, true, false, cond}
use mathlib.Core.List.Memᴰ
use mathlib.Core.List.{List, [], ◌∷◌, ◌++◌, map, append-nil, append_assoc, map-append}
use native.Mathlib.Nat.{zero-add}
use native.Mathlib.Omega.{arith}
use lib.ListN.{length, get_or, take, drop, length-append, length-take, take-append-drop, get_or-append}
use Rattle.grading.specs.Classes.{class_among_by, largest, classes_after_by, classes_by}
use Rattle.grading.proofs.Everywhere.{Every, every_first}

-- ---- the largest number

pub largest-append : (ms ns : List ℕ) → largest (ms ++ ns) ≡ max (largest ms) (largest ns)
unfolding largest
largest-append [] ns = omega arith
largest-append (m ∷ ms) ns = omega (arith, largest-append ms ns)

pub at-most-largest : (ns : List ℕ) (r : ℕ) → get_or ns r 0 ≤ largest ns
unfolding largest
at-most-largest [] r = omega arith
at-most-largest (n ∷ ns) zero = omega arith
at-most-largest (n ∷ ns) (suc r) = omega (arith, at-most-largest ns r)

module _ {A : Type 0} (same : A → A → Bool) where
  -- the class of one row more
  abbrev pub class_of : A → List A → List ℕ → ℕ
  class_of row before classes = class_among_by same row (suc (largest classes)) before classes

  -- ---- lengths

  length_after : (before : List A) (classes : List ℕ) (rows : List A)
      → length (classes_after_by same before classes rows) ≡ length classes + length rows
  unfolding classes_after_by
  length_after before classes [] = omega arith
  length_after before classes (row ∷ rows) =
      let class : ℕ = class_of row before classes in
      omega (arith, length_after (before ++ (row ∷ [])) (classes ++ (class ∷ [])) rows, length-append classes (class ∷ []))

  pub length_classes : (rows : List A) → length (classes_by same rows) ≡ length rows
  unfolding classes_by
  length_classes rows = length_after [] [] rows ∙ zero-add (length rows)

  -- ---- rows after rows

  pub classes_append : (before : List A) (classes : List ℕ) (xs ys : List A)
      → classes_after_by same before classes (xs ++ ys) ≡ classes_after_by same (before ++ xs) (classes_after_by same before classes xs) ys
  unfolding classes_after_by
  classes_append before classes [] ys = rw append-nil
  classes_append before classes (x ∷ xs) ys =
      let class : ℕ = class_of x before classes in
      classes_append (before ++ (x ∷ [])) (classes ++ (class ∷ [])) xs ys
      ∙ ap (λ (b : List A). classes_after_by same b (classes_after_by same (before ++ (x ∷ [])) (classes ++ (class ∷ [])) xs) ys)
      (append_assoc before (x ∷ []) xs)

  -- later rows change no number
  classes_kept : (before : List A) (classes : List ℕ) (rows : List A) (r : ℕ) → r < length classes
      → get_or (classes_after_by same before classes rows) r 0 ≡ get_or classes r 0
  unfolding classes_after_by
  classes_kept before classes [] r h = refl
  classes_kept before classes (row ∷ rows) r h =
      let class : ℕ = class_of row before classes in
      classes_kept (before ++ (row ∷ [])) (classes ++ (class ∷ [])) rows r (omega (arith, length-append classes (class ∷ [])))
      ∙ get_or-append classes (class ∷ []) 0 r h

  -- so the numbers of the first rows are the first numbers
  pub classes_first : (rows : List A) (n r : ℕ) → r < n → n ≤ length rows → get_or (classes_by same rows) r 0 ≡ get_or (classes_by same (take n rows)) r 0
  unfolding classes_by
  classes_first rows n r h k =
      ap (λ (l : List A). get_or (classes_after_by same [] [] l) r 0) (sym (take-append-drop n rows))
      ∙ ap (λ (l : List ℕ). get_or l r 0) (classes_append [] [] (take n rows) (drop n rows))
      ∙ classes_kept (take n rows) (classes_after_by same [] [] (take n rows)) (drop n rows) r
      (omega (arith, length_after [] [] (take n rows), length-take n rows))

  -- the number of one row more
  pub classes_snoc : (rows : List A) (row : A)
      → classes_by same (rows ++ (row ∷ [])) ≡ classes_by same rows ++ (class_of row rows (classes_by same rows) ∷ [])
  unfolding classes_by classes_after_by
  classes_snoc rows row = classes_append [] [] rows (row ∷ [])

  -- ---- no more numbers than rows: a new number is at most one more than the largest

  pub among_most : (row : A) (new : ℕ) (before : List A) (classes : List ℕ) → class_among_by same row new before classes ≤ max new (largest classes)
  unfolding class_among_by largest
  among_most row new [] classes = omega arith
  among_most row new (r ∷ rs) [] = omega arith
  among_most row new (r ∷ rs) (n ∷ ns) = go (same r row) (among_most row new rs ns)
    where
      go : (b : Bool) → class_among_by same row new rs ns ≤ max new (largest ns)
          → cond b n (class_among_by same row new rs ns) ≤ max new (max n (largest ns))
      go true h = omega arith
      go false h = omega arith

  largest_after : (before : List A) (classes : List ℕ) (rows : List A) → largest classes ≤ length classes
      → largest (classes_after_by same before classes rows) ≤ length classes + length rows
  unfolding classes_after_by largest
  largest_after before classes [] h = omega arith
  largest_after before classes (row ∷ rows) h =
      let class : ℕ = class_of row before classes in
      let most : largest (classes ++ (class ∷ [])) ≤ length (classes ++ (class ∷ [])) =
      omega (arith, largest-append classes (class ∷ []), length-append classes (class ∷ []), among_most row (suc (largest classes)) before classes) in
      omega (arith, largest_after (before ++ (row ∷ [])) (classes ++ (class ∷ [])) rows most, length-append classes (class ∷ []))

  pub largest_most : (rows : List A) → largest (classes_by same rows) ≤ length rows
  unfolding classes_by largest
  largest_most rows = omega (arith, largest_after [] [] rows (omega arith))

-- ---- rows that keys tell apart as the test does have the numbers of their keys

module _ {A B : Type 0} (same : A → A → Bool) (like : B → B → Bool) (key : A → B) where
  abbrev Keyed : A → List A → Type 0
  Keyed row rows = Every (λ (r : A). like (key r) (key row) ≡ same r row) rows

  among_keyed : (row : A) (new : ℕ) (before : List A) (classes : List ℕ) → Keyed row before
      → class_among_by same row new before classes ≡ class_among_by like (key row) new (map key before) classes
  unfolding class_among_by
  among_keyed row new [] classes keyed = refl
  among_keyed row new (r ∷ rs) [] keyed = refl
  among_keyed row new (r ∷ rs) (n ∷ ns) keyed =
      rw (keyed r (Memᴰ.head refl), among_keyed row new rs ns (λ s m. keyed s (Memᴰ.tail m)))

  after_keyed : (before : List A) (classes : List ℕ) (rows : List A) → Every (λ (row : A). Keyed row (before ++ rows)) rows
      → classes_after_by same before classes rows ≡ classes_after_by like (map key before) classes (map key rows)
  unfolding classes_after_by
  after_keyed before classes [] keyed = refl
  after_keyed before classes (row ∷ rows) keyed =
      let class : ℕ = class_of like (key row) (map key before) classes in
      let own : Keyed row before =
      every_first (λ (r : A). like (key r) (key row) ≡ same r row) before (row ∷ rows) (keyed row (Memᴰ.head refl)) in
      let joined : (before ++ (row ∷ [])) ++ rows ≡ before ++ (row ∷ rows) = append_assoc before (row ∷ []) rows in
      ap (λ (n : ℕ). classes_after_by same (before ++ (row ∷ [])) (classes ++ (n ∷ [])) rows) (among_keyed row (suc (largest classes)) before classes own)
      ∙ after_keyed (before ++ (row ∷ [])) (classes ++ (class ∷ [])) rows (λ r m. rw joined (keyed r (Memᴰ.tail m)))
      ∙ ap (λ (l : List B). classes_after_by like l (classes ++ (class ∷ [])) (map key rows)) (map-append key before (row ∷ []))

  pub classes_keyed : (rows : List A) → Every (λ (row : A). Keyed row rows) rows → classes_by same rows ≡ classes_by like (map key rows)
  unfolding classes_by
  classes_keyed rows keyed = after_keyed [] [] rows keyed
