-- `grade_inputs::put_inputs` meets its contract. The loop's invariant: word `w` of the inputs below `i` is put. Assumes nothing.
use mathlib.Core.Path.{◌≡◌}
use Rattle.grade_inputs.specs.Inputs.{inputs_put}
use Rattle.grade_inputs.proofs.put_inputs.Given as goal

abbrev pub invariant-loop-i : goal.invariant-loop-i
invariant-loop-i l = l.signals ≡ inputs_put l.i l.block l.w l.initial.signals
