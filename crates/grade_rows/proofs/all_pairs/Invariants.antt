-- `grade_rows::all_pairs` meets its contract. The loop's invariant: the codes of the nodes below `a` are written. Assumes nothing.
use Rattle.grade_rows.proofs.RowWriting.{Wrote, pairs_of, node_codes}
use Rattle.grade_rows.proofs.all_pairs.Given as goal

abbrev pub invariant-loop-a : goal.invariant-loop-a
invariant-loop-a l = Wrote l.initial.rows l.at (node_codes l.instance l.h (pairs_of l.h) l.a) l.rows l.next
