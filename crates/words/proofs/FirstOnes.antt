-- The ones at the first places of a word, and that a shift makes them.
use mathlib.Core.Path.{◌≡◌, refl, ◌∙◌}
use mathlib.Core.Bool.{Bool, true, false}
use Prim.Native.Nat.{ℕ, ◌-◌, ◌^◌, ◌≤◌, ◌<◌}
use native.Mathlib.Omega.{arith}
use lib.Dec.{ltb}
use lib.Pow.{pow_mono, pow_pos}
use borrow.Author.Tests.{lt-ltb, ltb-true, ltb-false}
use Rattle.words.specs.Bits.{bit, of_bool, first_ones}
use Rattle.words.proofs.Laws.{bit_past, of_bool_le_one, bit-ones, word_of_bits, bit_word, word_lt}

pub first_ones_lt : (n : ℕ) → first_ones n < 2 ^ 64
unfolding first_ones
first_ones_lt n = word_lt (λ (v : ℕ). of_bool (ltb v n)) (λ v. of_bool_le_one (ltb v n))

pub bit-first_ones : (n v : ℕ) → v < 64 → bit (first_ones n) v ≡ of_bool (ltb v n)
unfolding first_ones
bit-first_ones n v h = bit_word (λ (u : ℕ). of_bool (ltb u n)) (λ u. of_bool_le_one (ltb u n)) v h

-- a word of n ones
ones_bit : (n v : ℕ) (b : Bool) → ltb v n ≡ b → bit (2 ^ n - 1) v ≡ of_bool b
ones_bit n v true e = bit-ones n v (ltb-true v n e)
ones_bit n v false e = bit_past n (2 ^ n - 1) v (omega (arith, pow_pos n)) (ltb-false v n e)

pub ones-some : (n : ℕ) → n ≤ 64 → 2 ^ n - 1 ≡ first_ones n
unfolding first_ones
ones-some n h =
    word_of_bits (2 ^ n - 1) (λ (v : ℕ). of_bool (ltb v n)) (omega (arith, pow_pos n, pow_mono {i = n} {j = 64} h)) (λ v k. ones_bit n v (ltb v n) refl)

pub ones-all : (n : ℕ) → 64 ≤ n → 2 ^ 64 - 1 ≡ first_ones n
unfolding first_ones
ones-all n h =
    word_of_bits (2 ^ 64 - 1) (λ (v : ℕ). of_bool (ltb v n)) (omega arith) (λ v k. bit-ones 64 v k ∙ rw (lt-ltb v n (omega arith)))
