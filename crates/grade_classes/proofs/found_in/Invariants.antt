-- `grade_classes::found_in` meets its contract. The loop's invariant: what is found so far, with what the rows that are left add to it, is
-- all. Assumes nothing.
use Rattle.std.proofs.Common.{◌≡◌, ◌+◌, ◌≤◌, length}
use Rattle.grade_classes.specs.Model.{found_from}
use Rattle.grade_classes.proofs.ClassLaws.{found_left}
use Rattle.grade_classes.proofs.found_in.Given as goal

abbrev pub invariant-loop-r : goal.invariant-loop-r
invariant-loop-r l =
    (l.found ≤ l.r)
    × (l.found + found_left l.matrix l.classes (length l.classes) l.r l.last ≡ found_from l.matrix l.classes 0 (length l.classes) 0)
