-- What a call that graded its file gave: its circuit is a good one, the buffers are long enough, and the counts and the buffers are the circuit's.
use Prim.Native.Nat.{ℕ, ◌*◌, ◌<◌}
use mathlib.Core.Path.{◌≡◌, refl, ap, subst, ◌∙◌}
use mathlib.Core.Bool.{Bool, true, false, cond}
use mathlib.Core.List.{List}
use native.Mathlib.Omega.{arith}
use borrow.Author.Tests.{ltb-false}
use lib.Dec.{T, ltb}
use lib.ListN.{length, get_or, drop}
use Rattle.std.specs.Prelude.{Ok, Err}
use Rattle.circuit.specs.Circuit.{Circuit}
use Rattle.circuit.specs.Reading.{Reading}
use Rattle.circuit.specs.Laws.{CircuitGood}
use Rattle.circuit.proofs.CircuitLaws.{accepted-is-good}
use Rattle.grading.specs.Buffers.{room_of}
use Rattle.grading.specs.Rows.{rows_of, matrix_of}
use Rattle.grading.specs.Classes.{classes_of, class_count, found_count}
use Rattle.grading.specs.Rounds.{rounds_of}
use Rattle.grading.specs.Grading.{Grading, graded, refused, grading_of, grading_of_circuit, after_reading, over, counts_in, number_in, buffers_after}
use Rattle.grading.specs.Grading as grading
use Rattle.grading.specs.Promise.{Answer, is_graded, number_of, counts_of, AnswersAs}
use Rattle.grading.proofs.PromiseLaws.{matrix_at_exit, classes_at_exit}
use Rattle.grade_classes.proofs.FoundMeaning.{numbers_are}
use Rattle.grading.proofs.RoundLaws.{rounds_tell}
use Rattle.demands.specs.Calls.{Call, GradedAs, class_at}
use Rattle.demands.specs.One.{AnswerFits}
use Rattle.demands.specs.Rounds.{RoundsTold}

pub record Gave (call : Call) (c : Circuit) : Type 0 where
  pub good : CircuitGood c
  pub room : AnswerFits c (room_of call.before)
  pub counts_are : counts_of call.answer ≡ grading.counts_of_circuit c
  pub matrix_is : call.after.matrix ≡ over (matrix_of c) call.before.matrix
  pub classes_are : call.after.classes ≡ over (classes_of (rows_of c)) call.before.classes

no_number : (answer : Answer) → T (is_graded answer) → number_of answer ≡ 0
no_number (Ok counts) t = refl
no_number (Err why) t = absurd t

-- a call that graded a good circuit, whichever file it is read from, if any
pub gave_of_circuit : (call : Call) (c : Circuit) → CircuitGood c → AnswersAs (grading_of_circuit c (room_of call.before)) call.answer call.before call.after
    → T (is_graded call.answer) → Gave call c
unfolding grading_of_circuit number_in counts_in buffers_after
gave_of_circuit call c good answers is = go (ltb words (4 * faults)) (ltb entries faults) refl refl answers
  where
    words : ℕ
    words = length call.before.matrix

    entries : ℕ
    entries = length call.before.classes

    faults : ℕ
    faults = length (rows_of c)

    Kept : Grading → Type 0
    Kept g = AnswersAs g call.answer call.before call.after

    go : (a b : Bool) → ltb words (4 * faults) ≡ a → ltb entries faults ≡ b
        → Kept (cond a (refused 15 (4 * faults)) (cond b (refused 22 faults) (graded c))) → Gave call c
    go true b p q kept = absurd (omega (arith, kept.number, no_number call.answer is))
    go false true p q kept = absurd (omega (arith, kept.number, no_number call.answer is))
    go false false p q kept = record {
      good = good;
      room = record { words = ltb-false words (4 * faults) p; entries = ltb-false entries faults q };
      counts_are = kept.counts;
      matrix_is = matrix_at_exit _ _ _ _ kept;
      classes_are = classes_at_exit _ _ _ _ kept;
    }

pub gave : (call : Call) (c : Circuit) → GradedAs call c → Gave call c
unfolding grading_of after_reading
gave call c given =
    gave_of_circuit call c (accepted-is-good true call.file c given.accepts)
    (subst (λ (read : Reading). AnswersAs (after_reading read (room_of call.before)) call.answer call.before call.after) given.accepts given.kept)
    given.graded

-- ---- counts and class numbers

module _ (call : Call) (c : Circuit) (here : Gave call c) where
  pub classes_counted : (counts_of call.answer).classes ≡ class_count c
  unfolding grading.counts_of_circuit
  classes_counted = ap (λ (counts : grading.Counts). counts.classes) here.counts_are

  pub found_counted : (counts_of call.answer).found ≡ found_count c
  unfolding grading.counts_of_circuit
  found_counted = ap (λ (counts : grading.Counts). counts.found) here.counts_are

  pub rounds_counted : (counts_of call.answer).rounds ≡ rounds_of c
  unfolding grading.counts_of_circuit
  rounds_counted = ap (λ (counts : grading.Counts). counts.rounds) here.counts_are

  pub rounds_given_lem : RoundsTold call c
  rounds_given_lem = rw rounds_counted (rounds_tell.greatest c here.good)

  pub class_is : (r : ℕ) → r < length (rows_of c) → class_at call.after.classes r ≡ get_or (classes_of (rows_of c)) r 0
  unfolding class_at over
  class_is r h =
      ap (λ (classes : List ℕ). get_or classes r 0) here.classes_are
      ∙ numbers_are (rows_of c) (drop (length (classes_of (rows_of c))) call.before.classes) r h
