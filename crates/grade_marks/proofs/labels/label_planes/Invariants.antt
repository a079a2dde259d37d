-- `grade_marks::labels::label_planes` meets its contract. The loop's invariant: in both planes the labels below `l` have their words, and
-- the others 0. Assumes nothing.
use mathlib.Core.Path.{◌≡◌}
use Prim.Native.Nat.{◌*◌}
use Rattle.words.specs.Tables.{table, up_to}
use Rattle.grade_marks.proofs.SignalLaws.{plane_at}
use Rattle.grade_marks.proofs.labels.label_planes.Given as goal

abbrev pub invariant-loop-l : goal.invariant-loop-l
invariant-loop-l l = record {
  ones : l.labels.ones ≡ table 48 (up_to (4 * l.l) (plane_at l.references l.signals.ones));
  zeros : l.labels.zeros ≡ table 48 (up_to (4 * l.l) (plane_at l.references l.signals.zeros));
}
