-- `grade_file::grade::put_inputs` meets its contract: the vectors fill `(count + 63) / 64` words. Assumes nothing.
use Prim.Native.Nat.{ℕ, ◌+◌, ◌/◌}
use mathlib.Core.Path.{◌≡◌, ◌∙◌}
use native.Mathlib.Omega.{arith}
use Rattle.std.specs.Int.{div_ceil}
use Rattle.grade_file.proofs.grade.put_inputs.Goals as goal

filled : (n : ℕ) → div_ceil n 64 ≡ (n + 63) / 64
filled n = omega arith

pub put_signals-requires-clause-words_bound : goal.put_signals-requires-clause-words_bound
put_signals-requires-clause-words_bound c = omega (arith, filled c.args.count)

pub returns : goal.returns
returns c =
    let words : c.div_ceil.result ≡ (c.args.count + 63) / 64 = c.div_ceil.ensures ∙ filled c.args.count in
    (rw words at c.put_signals.ensures.0, rw words at c.put_signals.ensures.1)
