-- `grade_rows::rows_of` meets its contract. The loop's invariant: whatever good circuit the record tells, the codes of its first `i`
-- instances are written. Assumes nothing.
use mathlib.Core.Path.{◌≡◌}
use Rattle.circuit.specs.Circuit.{Circuit}
use Rattle.circuit.specs.Records.{circuit_record}
use Rattle.circuit.specs.Laws.{CircuitGood}
use Rattle.grade_rows.proofs.RowSteps.{Rowed}
use Rattle.grade_rows.proofs.rows_of.Given as goal

abbrev pub invariant-loop-i : goal.invariant-loop-i
invariant-loop-i l = (meant : Circuit) → l.fn.c ≡ circuit_record meant → CircuitGood meant → Rowed meant l.i l.codes l.at
