-- `print_lines::digits` meets its contract: a number has one digit more than the exponent of the power of ten that it reaches.
-- Assumes nothing.
use mathlib.Core.Path.{◌≡◌}
use Prim.Native.Nat.{ℕ, zero, suc, ◌+◌, ◌*◌, ◌^◌, ◌≤◌, ◌<◌, max}
use native.Mathlib.Omega.{arith}
use Rattle.print_lines.specs.Decimal.{length_in}
use Rattle.print_lines.proofs.DecimalLaws.{length-one, length_power}
use Rattle.print_lines.proofs.digits.Goals as goal

counted : (n d : ℕ) → d < 20 → 10 ^ d ≤ max n 1 → max n 1 < 10 * 10 ^ d → d + 1 ≡ length_in 20 n
counted zero d few low high =
    let one = length_power 20 d 1 (omega arith) (omega arith) (omega arith) in
    omega (arith, one, length-one 20 1 (omega arith), length-one 20 0 (omega arith))
counted (suc n) d few low high = omega (arith, length_power 20 d (suc n) (omega arith) (omega arith) (omega arith))

pub returns : goal.returns
returns c =
    let log = c.ilog10.ensures in
    counted c.args.n c.ilog10.result log.bound (rw c.max.ensures at log.power_le) (rw c.max.ensures at log.next_power_gt)
