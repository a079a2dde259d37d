-- 01, "The circuit file": signed numbers in two's complement, and what a list choice and a reference stand for.
use Rattle.std.specs.Prelude.{ℕ, zero, suc, ◌-◌, ◌*◌, Bool, true, cond, eqb, ltb}
use Rattle.switch.specs.Conduction.{between}
use Rattle.circuit.specs.Circuit.{Reference, primary, output_of, Choice, exhaustive, no_faults, list}

pub data Signed : Type 0 where
  plus : ℕ → Signed
  minus : ℕ → Signed

-- the signed number that n stands for in two's complement, where the numbers from `half` on, up to twice half, are below zero
unfoldable pub signed : ℕ → ℕ → Signed
signed half n = cond (ltb n half) (plus n) (minus (2 * half - n))

-- a list choice is one signed byte: -1 the exhaustive list, 0 no faults, 1 to 127 that list. Other values are refused
unfoldable pub choice_of : Signed → Choice
choice_of (minus n) = exhaustive
choice_of (plus zero) = no_faults
choice_of (plus (suc n)) = list (suc n)

unfoldable pub choice_in_range : Signed → Bool
choice_in_range (minus n) = eqb n 1
choice_in_range (plus n) = true

-- a reference is two bytes: above zero that primary input, -i the output of instance i
unfoldable pub reference_of : Signed → Reference
reference_of (plus n) = primary n
reference_of (minus i) = output_of i

-- of P inputs, and after `before` instances: zero means nothing, an instance must be an earlier one
unfoldable pub reference_good : ℕ → ℕ → Reference → Bool
reference_good P before (primary n) = between 1 P n
reference_good P before (output_of i) = between 1 before i
