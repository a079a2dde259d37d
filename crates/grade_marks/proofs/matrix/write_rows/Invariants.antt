-- `grade_marks::matrix::write_rows` meets its contract. The loop's invariant: the rows before the present one are written, and no other
-- word. Assumes nothing.
use mathlib.Core.Path.{◌≡◌}
use Prim.Native.Nat.{◌*◌}
use Rattle.words.specs.Tables.{table}
use Rattle.words.specs.Written.{written}
use Rattle.grade_marks.specs.Model.{rows_word}
use Rattle.grade_marks.proofs.matrix.write_rows.Given as goal

abbrev pub invariant-loop-r : goal.invariant-loop-r
invariant-loop-r l = l.matrix ≡ written l.initial.matrix 0 (table (4 * l.r) (rows_word l.rows l.rails l.labels l.fn.vectors))
