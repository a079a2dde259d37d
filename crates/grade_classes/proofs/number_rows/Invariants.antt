-- `grade_classes::number_rows` meets its contract. The outer loop's invariant: the rows so far are numbered, and their first rows chained
-- (`Numbered`). The inner loop's: every first row with the key is below the pointer (`Seeks`), which falls. Assumes nothing.
use Rattle.grade_classes.proofs.Chains.{Seeks, Numbered}
use Rattle.grade_classes.proofs.number_rows.Given as goal

abbrev pub invariant-loop-next : goal.invariant-loop-next
invariant-loop-next l = Seeks l.keys l.key l.r l.next

abbrev pub decreases-loop-next : goal.decreases-loop-next
decreases-loop-next l = l.next

abbrev pub invariant-loop-r : goal.invariant-loop-r
invariant-loop-r l = Numbered l.keys l.initial.classes l.heads l.nexts l.classes l.count l.r
