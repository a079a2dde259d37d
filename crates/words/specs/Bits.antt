-- A word as 64 bits: the bit at a position, and the word packed from a function on positions.
-- 01, "Faults, marks and classes": vector v, from 1, is bit (v - 1) mod 64. Positions here count from 0.
use Rattle.std.specs.Prelude.{ℕ, zero, suc, ◌+◌, ◌*◌, ◌/◌, ◌%◌, ◌^◌, max, Bool, true, false, ltb}

-- the bit of a word at a position: 0 or 1
unfoldable pub bit : ℕ → ℕ → ℕ
bit w v = w / 2 ^ v % 2

-- a truth value as a bit
abbrev pub of_bool : Bool → ℕ
of_bool true = 1
of_bool false = 0

-- the number whose bit v is `f v` for each v below n, and whose other bits are 0, where f gives 0 and 1
unfoldable pub pack : ℕ → (ℕ → ℕ) → ℕ
pack zero f = 0
pack (suc n) f = f 0 + 2 * pack n (λ (v : ℕ). f (suc v))

-- the word whose bit v is `f v`
unfoldable pub word : (ℕ → ℕ) → ℕ
word f = pack 64 f

-- ones at the first n places of a word, at all where n is 64 or more
unfoldable pub first_ones : ℕ → ℕ
first_ones n = word (λ (v : ℕ). of_bool (ltb v n))

-- the sum of f over the positions below n
unfoldable pub sum_to : ℕ → (ℕ → ℕ) → ℕ
sum_to zero f = 0
sum_to (suc n) f = f 0 + sum_to n (λ (v : ℕ). f (suc v))

-- the greatest of f over the positions below n, 0 where there is none
unfoldable pub greatest_to : ℕ → (ℕ → ℕ) → ℕ
greatest_to zero f = 0
greatest_to (suc n) f = max (f 0) (greatest_to n (λ (v : ℕ). f (suc v)))

-- one more than the place of the first bit that is set: 1 where this one is, else one more than among the later ones, and 0 where none is
abbrev pub first_or : ℕ → ℕ → ℕ
first_or (suc b) later = 1
first_or zero zero = 0
first_or zero (suc v) = suc (suc v)

-- one more than the first position below n at which f is not 0, or 0 where there is none
unfoldable pub first_to : ℕ → (ℕ → ℕ) → ℕ
first_to zero f = 0
first_to (suc n) f = first_or (f 0) (first_to n (λ (v : ℕ). f (suc v)))
