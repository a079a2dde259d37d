-- `grade_marks::matrix::write_row` meets its contract. Assumes nothing.
use native.Mathlib.Omega.{arith}
use Rattle.words.proofs.Tables.{is-table}
use Rattle.grade_marks.specs.Model.{row_under_masks}
use Rattle.grade_marks.proofs.matrix.write_row.Goals as goal

pub returns : goal.returns
unfolding row_under_masks
returns c = is-table 0 4 _ c.loop-w.words (omega arith) (λ w h. c.loop-w.invariant w (omega arith))
