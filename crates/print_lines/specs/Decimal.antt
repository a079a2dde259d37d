-- A number in decimal digits, as ASCII bytes, with no leading zero.
use Rattle.std.specs.Prelude.{ℕ, zero, suc, ◌+◌, ◌/◌, ◌%◌, cond, List, [], ◌∷◌, ◌++◌, ltb}

-- the last d digits of n, highest first
unfoldable pub digits_of : ℕ → ℕ → List ℕ
digits_of zero n = []
digits_of (suc d) n = digits_of d (n / 10) ++ ((48 + n % 10) ∷ [])

-- how many digits n has, at least one, looking at no more than `most`
unfoldable pub length_in : ℕ → ℕ → ℕ
length_in zero n = 1
length_in (suc most) n = let longer = length_in most (n / 10) in cond (ltb n 10) 1 (suc longer)

-- a number below 2 ^ 64 has at most 20 digits
unfoldable pub decimal : ℕ → List ℕ
decimal n = digits_of (length_in 20 n) n
