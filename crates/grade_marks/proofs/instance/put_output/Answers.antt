-- `grade_marks::instance::put_output` meets its contract. Assumes nothing.
use mathlib.Core.Path.{sym, refl}
use Prim.Native.Nat.{ℕ, ◌+◌, ◌*◌}
use native.Mathlib.Numerals.{add-one}
use native.Mathlib.Omega.{arith}
use Rattle.words.specs.Tables.{table}
use Rattle.words.proofs.WrittenLaws.{written_nothing, set_table_behind}
use Rattle.grade_marks.specs.Model.{output_planes}
use Rattle.grade_marks.proofs.instance.put_output.Goals as goal

pub loop-w-init : goal.loop-w-init
unfolding table
loop-w-init c = record { ones = sym (written_nothing _ _); zeros = sym (written_nothing _ _) }

pub loop-w-preserved : goal.loop-w-preserved
unfolding output_planes
loop-w-preserved c =
    let args = c.args in
    let loop = c.loop-w in
    let at : ℕ = 4 * (64 + args.place) in
    record {
      ones = rw (add-one, c.output_planes-planes.ensures, loop.invariant.ones)
          (set_table_behind args.signals.now.ones at loop.w _ (at + loop.w) _ refl (omega arith) refl);
      zeros = rw (add-one, c.output_planes-planes.ensures, loop.invariant.zeros)
          (set_table_behind args.signals.now.zeros at loop.w _ (at + loop.w) _ refl (omega arith) refl);
    }
