-- A list made from a function on places, and a function that is 0 from a place on.
use Rattle.std.specs.Prelude.{ℕ, zero, suc, cond, List, [], ◌∷◌, ltb}

-- f 0, f 1, .., f (n - 1)
unfoldable pub table : {A : Type 0} → ℕ → (ℕ → A) → List A
table zero f = []
table (suc n) f = f zero ∷ table n (λ (i : ℕ). f (suc i))

-- f at the places below n, and 0 from n on
unfoldable pub up_to : ℕ → (ℕ → ℕ) → ℕ → ℕ
up_to n f i = cond (ltb i n) (f i) 0
