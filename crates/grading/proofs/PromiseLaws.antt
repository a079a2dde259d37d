-- The promise of a circuit and of a file that is read as it; and what a kept promise says of each buffer.
use mathlib.Core.Path.{◌≡◌, refl, sym, ap, subst}
use mathlib.Core.Bool.{true}
use Rattle.circuit.specs.Reading.{Reading}
use Rattle.circuit.proofs.CircuitLaws.{accepted-is-good}
use Rattle.grading.specs.Buffers.{Buffers, room_of}
use Rattle.grading.specs.Grading.{Grading, grading_of, after_reading, buffers_after}
use Rattle.grading.specs.Promise.{Answer, AnswersAs}
use Rattle.grading.specs.Statements.{CircuitPromiseIsFiles}

pub circuit-promise-is-files : CircuitPromiseIsFiles
unfolding grading_of after_reading
circuit-promise-is-files file c reads before after answer promise =
    subst (λ (read : Reading). AnswersAs (after_reading read (room_of before)) answer before after) (sym reads)
    (promise c refl (accepted-is-good true file c reads))

-- ---- buffer by buffer

module _ (grading : Grading) (answer : Answer) (before after : Buffers) (kept : AnswersAs grading answer before after) where
  pub matrix_at_exit : after.matrix ≡ (buffers_after grading before).matrix
  matrix_at_exit = ap (λ (buffers : Buffers). buffers.matrix) kept.buffers_at_exit

  pub classes_at_exit : after.classes ≡ (buffers_after grading before).classes
  classes_at_exit = ap (λ (buffers : Buffers). buffers.classes) kept.buffers_at_exit

pub same_buffers : (one other : Buffers) → one.matrix ≡ other.matrix → one.classes ≡ other.classes → one ≡ other
same_buffers one other matrix classes = λ i. record { matrix = matrix i; classes = classes i }
