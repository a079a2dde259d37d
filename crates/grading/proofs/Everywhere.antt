-- What holds of every element of a list: of joined lists, tables and images, and at each place; and each element has a place.
use Prim.Native.Nat.{ℕ, zero, suc, ◌<◌}
use mathlib.Core.Path.{◌≡◌, refl, sym}
use mathlib.Core.Logic.{⊎_elim}
use mathlib.Core.List.Memᴰ
use mathlib.Core.List.{List, [], ◌∷◌, ◌++◌, map, Memᴰ}
use native.Mathlib.Nat.{not-suc-le-zero}
use native.Mathlib.Omega.{arith}
use lib.ListN.{length, get_or}
use Rattle.words.specs.Tables.{table}
use Rattle.circuit.specs.Circuit.{join_lists}

abbrev pub Every : {A : Type 0} → (A → Type 0) → List A → Type 0
Every {A} P as' = (a : A) → Memᴰ a as' → P a

module _ {A : Type 0} (P : A → Type 0) where
  pub every_nil : Every P []
  every_nil a m = absurd (Memᴰ.not-nil m)

  pub every_cons : (b : A) (as' : List A) → P b → Every P as' → Every P (b ∷ as')
  every_cons b as' p h a m = ⊎_elim (λ (e : a ≡ b). rw e p) (h a) (Memᴰ.cases_cons m)

  pub every_append : (as' bs : List A) → Every P as' → Every P bs → Every P (as' ++ bs)
  every_append as' bs h k a m = ⊎_elim (h a) (k a) (Memᴰ.append_cases as' m)

  pub every_first : (as' bs : List A) → Every P (as' ++ bs) → Every P as'
  every_first as' bs h a m = h a (Memᴰ.append_left bs m)

  pub every_second : (as' bs : List A) → Every P (as' ++ bs) → Every P bs
  every_second as' bs h a m = h a (Memᴰ.append_right as' m)

  pub every_at : (as' : List A) → Every P as' → (i : ℕ) (none : A) → i < length as' → P (get_or as' i none)
  every_at [] h i none l = absurd (not-suc-le-zero l)
  every_at (a ∷ as') h zero none l = h a (Memᴰ.head refl)
  every_at (a ∷ as') h (suc i) none l = every_at as' (λ b m. h b (Memᴰ.tail m)) i none (omega arith)

  pub every_table : (n : ℕ) (f : ℕ → A) → ((i : ℕ) → i < n → P (f i)) → Every P (table n f)
  unfolding table
  every_table zero f h = every_nil
  every_table (suc n) f h =
      every_cons (f zero) (table n (λ (i : ℕ). f (suc i))) (h zero (omega arith)) (every_table n (λ (i : ℕ). f (suc i)) (λ i l. h (suc i) (omega arith)))

  pub every_join : (ls : List (List A)) → Every (Every P) ls → Every P (join_lists ls)
  unfolding join_lists
  every_join [] h = every_nil
  every_join (l ∷ ls) h = every_append l (join_lists ls) (h l (Memᴰ.head refl)) (every_join ls (λ k m. h k (Memᴰ.tail m)))

pub every_map : {A B : Type 0} (P : B → Type 0) (f : A → B) (as' : List A) → Every (λ (a : A). P (f a)) as' → Every P (map f as')
every_map P f [] h = every_nil P
every_map P f (a ∷ as') h = every_cons P (f a) (map f as') (h a (Memᴰ.head refl)) (every_map P f as' (λ b m. h b (Memᴰ.tail m)))

pub place_of_lem : {A : Type 0} {a : A} {as' : List A} (none : A) → Memᴰ a as' → (i : ℕ) × (i < length as') × (get_or as' i none ≡ a)
place_of_lem none (Memᴰ.head e) = (0, omega arith, sym e)
place_of_lem none (Memᴰ.tail m) = let later = place_of_lem none m in (suc later.0, omega (arith, later.1), later.2)
