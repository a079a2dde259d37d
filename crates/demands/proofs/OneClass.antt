-- Rows join the same two wires exactly when the grader's test for one class says so. Assumes nothing.
use mathlib.Core.Logic.{◌↔◌}
use lib.Dec.{T}
use Rattle.grading.specs.Rows.{Row}
use Rattle.grading.specs.Classes.{same_class}
use Rattle.grading.proofs.SameClass.{same_ends, ends_same}
use Rattle.demands.specs.Two.{OneClass}

pub one-class-is-tested : (r s : Row) → OneClass r s ↔ T (same_class r s)
unfolding OneClass
one-class-is-tested r s = (ends_same r s, same_ends r s)
