-- `grade_inputs::exchange` meets its contract. The loop's invariant: the words of the first `i` turns are stepped, the others as they were.
-- Assumes nothing.
use mathlib.Core.Path.{◌≡◌}
use Rattle.grade_inputs.proofs.TurnLaws.{turns_to}
use Rattle.grade_inputs.proofs.exchange.Given as goal

abbrev pub invariant-loop-i : goal.invariant-loop-i
invariant-loop-i l = l.block ≡ turns_to l.by l.initial.block l.i
