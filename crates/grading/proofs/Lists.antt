-- An element of an image, and lists in a line.
use Prim.Native.Nat.{ℕ, zero, suc, ◌<◌}
use mathlib.Core.Path.{◌≡◌, refl, sym}
use mathlib.Core.List.{List, [], ◌∷◌, ◌++◌, map, append-nil, append_assoc}
use lib.ListN.{length, get_or}
use native.Mathlib.Nat.{le_of_suc-le-suc, not-suc-le-zero}
use Rattle.circuit.specs.Circuit.{join_lists}

-- an element that is there
pub get_or-map_any : {A B : Type 0} (f : A → B) (as' : List A) (i : ℕ) (a : A) (b : B) → i < length as' → get_or (map f as') i b ≡ f (get_or as' i a)
get_or-map_any f [] i a b h = absurd (not-suc-le-zero h)
get_or-map_any f (x ∷ xs) zero a b h = refl
get_or-map_any f (x ∷ xs) (suc i) a b h = get_or-map_any f xs i a b (le_of_suc-le-suc h)

pub join_append : {A : Type 0} (as' bs : List (List A)) → join_lists (as' ++ bs) ≡ join_lists as' ++ join_lists bs
unfolding join_lists
join_append [] bs = refl
join_append (a ∷ as') bs = rw (join_append as' bs) (sym (append_assoc a (join_lists as') (join_lists bs)))

pub join_one : {A : Type 0} (as' : List A) → join_lists (as' ∷ []) ≡ as'
unfolding join_lists
join_one as' = append-nil as'
