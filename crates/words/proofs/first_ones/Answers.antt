-- `words::first_ones` meets its contract. Assumes nothing.
use mathlib.Core.Path.{◌≡◌}
use Prim.Native.Nat.{ℕ, ◌*◌, ◌^◌, ◌%◌, ◌<◌}
use native.Mathlib.Omega.{arith}
use lib.Pow.{pow_pos, pow-lt}
use Rattle.words.proofs.FirstOnes.{ones-some, ones-all}
use Rattle.words.proofs.first_ones.Goals as goal

pub returns-then-n-ge64 : goal.returns-then-n-ge64
returns-then-n-ge64 c = ones-all c.args.n c.if-n-ge64.true

-- the shift loses no bit
shifted : (n : ℕ) → n < 64 → 1 * 2 ^ n % 2 ^ 64 ≡ 2 ^ n
shifted n h = omega (arith, pow-lt {i = n} {j = 64} h)

pub overflow_sub-result : goal.overflow_sub-result
overflow_sub-result c = omega (arith, shifted c.args.n c.if-n-ge64.false, pow_pos c.args.n)

pub returns : goal.returns
returns c = rw (shifted c.args.n c.if-n-ge64.false) (ones-some c.args.n (omega arith))
