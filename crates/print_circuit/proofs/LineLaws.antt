-- Fields one behind the other. Assumes nothing.
use mathlib.Core.Path.{◌≡◌, sym, ap, ◌∙◌}
use mathlib.Core.List.{List, [], ◌∷◌, ◌++◌, map, append-nil, append_assoc}
use Prim.Native.Nat.{ℕ, zero, suc, ◌+◌, ◌<◌}
use native.Mathlib.Nat.{not-suc-le-zero, le_of_suc-le-suc}
use native.Mathlib.Numerals.{add-one}
use lib.ListN.{length, get_or, take}
use Rattle.circuit.specs.Circuit.{join_lists}
use Rattle.print_circuit.specs.Lines.{spaced}

-- the texts of a list's elements behind a text, with one element more
more : {A : Type 0} (text : A → List ℕ) (l : List A) (i : ℕ) (none : A) → i < length l
    → join_lists (map text (take i l)) ++ text (get_or l i none) ≡ join_lists (map text (take (suc i) l))
unfolding join_lists
more text [] i none h = absurd (not-suc-le-zero h)
more text (a ∷ l) zero none h = sym (append-nil (text a))
more text (a ∷ l) (suc i) none h =
    append_assoc (text a) (join_lists (map text (take i l))) (text (get_or l i none))
    ∙ ap (λ (t : List ℕ). text a ++ t) (more text l i none (le_of_suc-le-suc h))

pub join_more : {A : Type 0} (text : A → List ℕ) (front : List ℕ) (l : List A) (i : ℕ) (a : A) → a ≡ get_or l i a → i < length l
    → front ++ join_lists (map text (take i l)) ++ text a ≡ front ++ join_lists (map text (take (i + 1) l))
join_more text front l i a e h =
    append_assoc front (join_lists (map text (take i l))) (text a)
    ∙ ap (λ (t : List ℕ). front ++ t)
    (ap (λ (b : _). join_lists (map text (take i l)) ++ text b) e
    ∙ more text l i a h
    ∙ ap (λ (n : ℕ). join_lists (map text (take n l))) (sym (add-one i)))

-- one number alone
pub fields_one : (n : ℕ) → join_lists (map spaced (n ∷ [])) ≡ spaced n
unfolding join_lists
fields_one n = append-nil (spaced n)
