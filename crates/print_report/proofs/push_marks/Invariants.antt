-- `print_report::push_marks` meets its contract. The loop's invariant: the digits of the vectors passed stand behind what the line had.
-- Assumes nothing.
use mathlib.Core.Path.{◌≡◌}
use mathlib.Core.List.{◌++◌}
use Prim.Native.Nat.{◌+◌}
use lib.ListN.{length}
use Rattle.print_report.specs.Lines.{digits_of_marks}
use Rattle.print_report.proofs.push_marks.Given as goal

abbrev pub invariant-loop-v : goal.invariant-loop-v
invariant-loop-v g l = (l.line ≡ l.initial.line ++ digits_of_marks l.v l.row) × (length l.line ≡ length l.initial.line + l.v)
