-- `grade_marks::matrix::write_row` meets its contract. The loop's invariant: the first `w` words of the row are written. Assumes nothing.
use mathlib.Core.Path.{◌≡◌}
use lib.Bits.{bit_and}
use lib.ListN.{get_or}
use Prim.Native.Nat.{ℕ, ◌<◌}
use Rattle.grade_marks.specs.Model.{mark_word}
use Rattle.grade_marks.proofs.matrix.write_row.Given as goal

abbrev pub invariant-loop-w : goal.invariant-loop-w
invariant-loop-w l = (v : ℕ) → v < l.w → get_or l.words v 0 ≡ bit_and (mark_word l.rails l.labels l.row v) (get_or l.masks v 0)
