-- Laws of decimal numbers: how many digits a number has, that they are as std prints them, and those of the number. Assumes nothing.
use mathlib.Core.Path.{◌≡◌, refl, ap, ◌∙◌}
use mathlib.Core.Bool.{Bool, true, false, cond}
use mathlib.Core.List.{List, [], ◌∷◌, ◌++◌}
use mathlib.Core.Logic.{◌⊎◌, inl, inr, ⊎_elim}
use Prim.Native.Nat.{ℕ, zero, suc, ◌+◌, ◌*◌, ◌/◌, ◌%◌, ◌^◌, ◌≤◌, ◌<◌}
use native.Mathlib.Nat.{pow-suc}
use native.Mathlib.Omega.{arith}
use borrow.Author.Tests.{ltb-true, ltb-false, lt-ltb, le-ltb}
use lib.Dec.{ltb}
use lib.ListN.{length, get_or, length-append}
use Rattle.std.specs.Fmt.{decimal as printed}
use Rattle.std.proofs.lemmas.Fmt.{decimal_digit, decimal_step, decimal_is_IsNumeral, first_decimal, length-decimal-le}
use Rattle.std.specs.Str.Parse.{IsNumeral, digits_value}
use Rattle.print_lines.specs.Decimal.{digits_of, length_in, decimal}

-- ---- how many digits

by_ten : (n : ℕ) → (n < 10) ⊎ (10 ≤ n)
by_ten n = by (ltb n 10) refl
  where
    by : (t : Bool) → ltb n 10 ≡ t → (n < 10) ⊎ (10 ≤ n)
    by true e = inl (ltb-true n 10 e)
    by false e = inr (ltb-false n 10 e)

-- a number below ten has one digit, another one more than its tenth
pub length-one : (most n : ℕ) → n < 10 → length_in most n ≡ 1
unfolding length_in
length-one zero n h = refl
length-one (suc most) n h = rw (lt-ltb n 10 h)

length_more : (most n : ℕ) → 10 ≤ n → length_in (suc most) n ≡ suc (length_in most (n / 10))
unfolding length_in
length_more most n h = rw (le-ltb n 10 h)

power_some : (d : ℕ) → 1 ≤ 10 ^ d
power_some zero = omega arith
power_some (suc d) = omega (arith, pow-suc 10 d, power_some d)

-- a number from a power of ten up to the next has one digit more than the power
pub length_power : (most d n : ℕ) → d ≤ most → 10 ^ d ≤ n → n < 10 * 10 ^ d → length_in most n ≡ suc d
length_power most zero n few low high = length-one most n (omega arith)
length_power zero (suc d) n few low high = absurd (omega arith)
length_power (suc most) (suc d) n few low high =
    length_more most n (omega (arith, pow-suc 10 d, power_some d))
    ∙ ap suc (length_power most d (n / 10) (omega arith) (omega (arith, pow-suc 10 d)) (omega (arith, pow-suc 10 d)))

pub length_digits : (d n : ℕ) → length (digits_of d n) ≡ d
unfolding digits_of
length_digits zero n = refl
length_digits (suc d) n = rw (length-append, length_digits d) (omega arith)

-- whatever the number, its digits are at most one more than the definition looks at: a bound that asks nothing of the number
length_in_lem : (most n : ℕ) → length_in most n ≤ suc most
unfolding length_in
length_in_lem zero n = omega arith
length_in_lem (suc most) n = by (ltb n 10) (length_in_lem most (n / 10))
  where
    by : (t : Bool) → length_in most (n / 10) ≤ suc most → cond t 1 (suc (length_in most (n / 10))) ≤ suc (suc most)
    by true l = omega arith
    by false l = omega arith

pub at_most_21 : (n : ℕ) → length (decimal n) ≤ 21
unfolding decimal
at_most_21 n = rw length_digits (length_in_lem 20 n)

-- ---- the number as std prints it

one_digit : (n : ℕ) → n < 10 → printed n ≡ (48 + n % 10) ∷ []
one_digit n l = decimal_digit n l ∙ ap (λ (d : ℕ). (48 + d) ∷ []) (omega arith)

printed_in : (most n : ℕ) → n < 10 ^ suc most → n < 2 ^ 64 → printed n ≡ digits_of (length_in most n) n
unfolding digits_of
printed_in zero n h fits = rw (length-one zero n (omega arith)) (one_digit n (omega arith))
printed_in (suc most) n h fits =
    ⊎_elim
    (λ l. rw (length-one (suc most) n l) (one_digit n l))
    (λ l.
    let front = printed_in most (n / 10) (omega (arith, pow-suc 10 (suc most))) (omega arith) in
    rw (length_more most n l) (decimal_step n l fits ∙ ap (λ (t : List ℕ). t ++ ((48 + n % 10) ∷ [])) front))
    (by_ten n)

pub printed_is : (n : ℕ) → n < 2 ^ 64 → printed n ≡ decimal n
unfolding decimal
printed_is n h = printed_in 20 n (omega arith) h

pub at_most_20 : (n : ℕ) → n < 2 ^ 64 → length (decimal n) ≤ 20
at_most_20 n h = rw (← printed_is n h) (length-decimal-le 20 n (omega arith) (omega arith) h)

-- so its digits are the number's, with no zero before them
pub decimal_writes : (n : ℕ) → n < 2 ^ 64 → IsNumeral 10 (decimal n) × (digits_value 10 (decimal n) ≡ n)
    × (0 < n → 48 < get_or (decimal n) 0 0)
decimal_writes n h =
    let said = decimal_is_IsNumeral n h in
    rw (← printed_is n h) (said.0, said.1, λ (some : 0 < n). first_decimal n some h)
