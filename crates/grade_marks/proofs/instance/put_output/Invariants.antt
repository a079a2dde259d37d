-- `grade_marks::instance::put_output` meets its contract. The loop's invariant: the first `w` words of both planes are written.
-- Assumes nothing.
use mathlib.Core.Path.{◌≡◌}
use Prim.Native.Nat.{ℕ, ◌+◌, ◌*◌}
use Rattle.words.specs.Written.{written}
use Rattle.words.specs.Tables.{table}
use Rattle.grade_marks.specs.Model.{output_planes}
use Rattle.grade_marks.proofs.instance.put_output.Given as goal

abbrev pub invariant-loop-w : goal.invariant-loop-w
invariant-loop-w l = record {
  ones : l.signals.ones
      ≡ written l.initial.signals.ones (4 * (64 + l.place)) (table l.w (λ (v : ℕ). (output_planes l.rails l.node v).ones));
  zeros : l.signals.zeros
      ≡ written l.initial.signals.zeros (4 * (64 + l.place)) (table l.w (λ (v : ℕ). (output_planes l.rails l.node v).zeros));
}
