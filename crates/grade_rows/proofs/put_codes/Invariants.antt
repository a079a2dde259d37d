-- `grade_rows::put_codes` meets its contract. The loop's invariant: the codes of the seconds before the present one are written. Assumes
-- nothing.
use Rattle.std.proofs.Common.{◌≡◌}
use Rattle.words.specs.Written.{written}
use Rattle.grade_rows.specs.Model.{codes_from}
use Rattle.grade_rows.proofs.put_codes.Given as goal

abbrev pub invariant-loop-second : goal.invariant-loop-second
invariant-loop-second l = l.rows ≡ written l.initial.rows l.at (codes_from l.instance l.kind l.first l.from l.second)
