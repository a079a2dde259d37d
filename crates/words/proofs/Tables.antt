-- The laws of a list made from a function: its length, its elements, that a list with these elements is it, and one element more. And those of a list
-- that is filled from the front: the first n elements are the function's, the others 0.
use Prim.Native.Nat.{ℕ, zero, suc, ◌≤◌, ◌<◌, zero-le, suc-le-suc}
use mathlib.Core.Path.{◌≡◌, refl, ap, sym, ◌∙◌}
use mathlib.Core.Bool.{Bool, true, false}
use mathlib.Core.List.{List, [], ◌∷◌, ◌++◌, map}
use native.Mathlib.Nat.{le_of_suc-le-suc, not-suc-le-zero}
use native.Mathlib.Decide.{ℕ_discrete}
use native.Mathlib.Omega.{arith}
use borrow.Author.Tests.{ltb-true, ltb-false, lt-ltb, le-ltb}
use lib.Dec.{ltb}
use lib.ListN.{length, get_or, set, replicate, length-set, length-replicate, get_or-replicate}
use lib.Seq.{ext_get_or, get_or-set_same, get_or-set_other}
use Rattle.words.specs.Tables.{table, up_to}

pub length-table : {A : Type 0} (n : ℕ) (f : ℕ → A) → length (table n f) ≡ n
unfolding table
length-table zero f = refl
length-table (suc n) f = ap suc (length-table n (λ (i : ℕ). f (suc i)))

pub get_or-table : {A : Type 0} (n : ℕ) (f : ℕ → A) (d : A) (i : ℕ) → i < n → get_or (table n f) i d ≡ f i
unfolding table
get_or-table zero f d i h = absurd (not-suc-le-zero h)
get_or-table (suc n) f d zero h = refl
get_or-table (suc n) f d (suc i) h = get_or-table n (λ (j : ℕ). f (suc j)) d i (le_of_suc-le-suc h)

-- a list of n elements that are f's is the table of f
pub is-table : {A : Type 0} (d : A) (n : ℕ) (f : ℕ → A) (l : List A) → length l ≡ n → ((i : ℕ) → i < n → get_or l i d ≡ f i) → l ≡ table n f
is-table d n f l e h =
    ext_get_or d l (table n f) (e ∙ sym (length-table n f))
    (λ i q. let p : i < n = (rw e at q) in h i p ∙ sym (get_or-table n f d i p))

pub table_cong : {A : Type 0} (n : ℕ) (f g : ℕ → A) → ((i : ℕ) → i < n → f i ≡ g i) → table n f ≡ table n g
unfolding table
table_cong zero f g h = refl
table_cong {A} (suc n) f g h =
    rw (h zero (suc-le-suc zero-le)) (ap (λ (l : List A). g zero ∷ l) (table_cong n (λ (i : ℕ). f (suc i)) (λ (i : ℕ). g (suc i)) (λ i q. h (suc i) (suc-le-suc q))))

-- one element more
pub table_more : {A : Type 0} (n : ℕ) (f : ℕ → A) → table (suc n) f ≡ table n f ++ (f n ∷ [])
unfolding table
table_more zero f = refl
table_more {A} (suc n) f = ap (λ (l : List A). f zero ∷ l) (table_more n (λ (i : ℕ). f (suc i)))

pub map-table : {A B : Type 0} (g : A → B) (n : ℕ) (f : ℕ → A) → map g (table n f) ≡ table n (λ (i : ℕ). g (f i))
unfolding table
map-table g zero f = refl
map-table {A} {B} g (suc n) f = ap (λ (l : List B). g (f zero) ∷ l) (map-table g n (λ (i : ℕ). f (suc i)))

-- one element set, the others as they were
pub set-table : {A : Type 0} (d : A) (n : ℕ) (f g : ℕ → A) (i : ℕ) → i < n → ((j : ℕ) → j < n → (j ≡ i → ⊥) → f j ≡ g j) → set (table n f) i (g i) ≡ table n g
set-table d n f g i h others =
    is-table d n g (set (table n f) i (g i)) (length-set (table n f) i (g i) ∙ length-table n f) (λ j q. at j q (ℕ_discrete j i))
  where
    at : (j : ℕ) → j < n → Dec (j ≡ i) → get_or (set (table n f) i (g i)) j d ≡ g j
    at j q (yes e) =
        rw e (get_or-set_same (table n f) i (g i) d (rw (length-table n f) h))
    at j q (no e) = get_or-set_other (table n f) i j (g i) d e ∙ get_or-table n f d j q ∙ others j q e

-- ---- filled from the front

pub up-below : (n : ℕ) (f : ℕ → ℕ) (i : ℕ) → i < n → up_to n f i ≡ f i
unfolding up_to
up-below n f i h = rw (lt-ltb i n h)

pub up-past : (n : ℕ) (f : ℕ → ℕ) (i : ℕ) → n ≤ i → up_to n f i ≡ 0
unfolding up_to
up-past n f i h = rw (le-ltb i n h)

pub fill_none : (m : ℕ) (f : ℕ → ℕ) → replicate m 0 ≡ table m (up_to 0 f)
fill_none m f =
    is-table 0 m (up_to 0 f) (replicate m 0) (length-replicate m 0) (λ i h. get_or-replicate m i 0 0 h ∙ sym (up-past 0 f i zero-le))

pub fill_more : (m : ℕ) (f : ℕ → ℕ) (i : ℕ) → i < m → set (table m (up_to i f)) i (f i) ≡ table m (up_to (suc i) f)
fill_more m f i h =
    ap (set (table m (up_to i f)) i) (sym (up-below (suc i) f i (omega arith)))
    ∙ set-table 0 m (up_to i f) (up_to (suc i) f) i h (λ j k apart. same j apart (ltb j i) refl)
  where
    same : (j : ℕ) → (j ≡ i → ⊥) → (b : Bool) → ltb j i ≡ b → up_to i f j ≡ up_to (suc i) f j
    same j apart true e = up-below i f j (ltb-true j i e) ∙ sym (up-below (suc i) f j (omega (arith, ltb-true j i e)))
    same j apart false e = up-past i f j (ltb-false j i e) ∙ sym (up-past (suc i) f j (omega (arith, ltb-false j i e, apart)))

pub get_or-fill : (m : ℕ) (f : ℕ → ℕ) (n i : ℕ) → i < n → n ≤ m → get_or (table m (up_to n f)) i 0 ≡ f i
get_or-fill m f n i h k = get_or-table m (up_to n f) 0 i (omega arith) ∙ up-below n f i h
