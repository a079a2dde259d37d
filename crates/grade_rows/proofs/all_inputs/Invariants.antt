-- `grade_rows::all_inputs` meets its contract. The loop's invariant: the codes of the nodes below `m` are written. Assumes nothing.
use Rattle.grade_rows.proofs.RowWriting.{Wrote, inputs_at, node_codes}
use Rattle.grade_rows.proofs.all_inputs.Given as goal

abbrev pub invariant-loop-m : goal.invariant-loop-m
invariant-loop-m l = Wrote l.initial.rows l.at (node_codes l.instance l.h (inputs_at l.k) l.m) l.rows l.next
