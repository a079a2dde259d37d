-- `grade_inputs::put_signals` meets its contract. The loop's invariant: the first `w` words of each input are there. Assumes nothing.
use mathlib.Core.Path.{◌≡◌}
use Rattle.grade_inputs.specs.Inputs.{ones_of, zeros_of, input_words}
use Rattle.grade_inputs.proofs.put_signals.Given as goal

abbrev pub invariant-loop-w : goal.invariant-loop-w
invariant-loop-w l =
    (l.signals.ones ≡ input_words (ones_of l.vectors) l.w) × (l.signals.zeros ≡ input_words (zeros_of l.vectors) l.w)
