-- `grade_rows::listed` meets its contract. The loop's invariant: the codes of the list's bridges so far are written. Assumes nothing.
use Rattle.std.proofs.Common.{take}
use Rattle.grade_rows.specs.Model.{listed_codes}
use Rattle.grade_rows.proofs.RowWriting.{Wrote}
use Rattle.grade_rows.proofs.listed.Given as goal

abbrev pub invariant-loop-b : goal.invariant-loop-b
invariant-loop-b l = Wrote l.initial.rows l.at (listed_codes l.instance l.list (take l.b-index l.bridges)) l.rows l.next
