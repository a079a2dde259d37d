-- `grade_file::grade::mark_rows` meets its contract. The loop's invariant: whatever good circuit the record tells, its first `i` instances
-- are marked, their rows keyed and their rounds known (`Turned`). Assumes nothing.
use Rattle.grading.specs.Given.{CircuitGiven}
use Rattle.grade_file.proofs.Assembly.{Turned}
use Rattle.grade_file.proofs.grade.mark_rows.Given as goal

abbrev pub invariant-loop-i : goal.invariant-loop-i
invariant-loop-i l =
    (told : CircuitGiven l.c)
    → Turned told.circuit l.initial.matrix record {
      signals = l.signals;
      matrix = l.matrix;
      codes = l.codes;
      from = l.from;
      rounds = l.rounds;
      place = l.i;
    }
