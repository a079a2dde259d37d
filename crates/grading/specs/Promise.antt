-- The promise of `grade`: its whole answer and the buffers at exit, on refusal too, for any bytes and any buffers. And that of
-- `grade_read`.
use Rattle.std.specs.Prelude.{ℕ, ◌≡◌, Bool, true, false, List, Result, Ok, Err}
use Rattle.circuit.specs.Reading.{reading_of}
use Rattle.circuit.specs.Refusals.{refusal_number, refusal_place}
use Rattle.circuit.specs.Answers.{Tells}
use Rattle.circuit.specs.declared.Reading.{Reading as ReadingRecord}
use Rattle.grading.specs.Buffers.{Buffers, room_of}
use Rattle.grading.specs.Grading.{Counts, no_counts, Grading, grading_of}
use Rattle.grading.specs.Grading.{is_graded_in, counts_in, number_in, place_in, buffers_after}
use Rattle.grading.specs.declared.Counts.{Counts as CountsRecord}
use Rattle.grading.specs.declared.Ungraded.{Ungraded}
use Rattle.grading.specs.declared.Ungraded.TheVariants.{Refused, ShortMatrix, ShortClasses}

-- a grading's counts, or why there is none
abbrev pub Answer : Type 0
Answer = Result CountsRecord Ungraded

abbrev pub is_graded : Answer → Bool
is_graded (Ok counts) = true
is_graded (Err why) = false

-- for each reason the paper's number and place
abbrev pub number_why : Ungraded → ℕ
number_why (Refused refusal) = refusal_number refusal
number_why (ShortMatrix words) = 15
number_why (ShortClasses faults) = 22

abbrev pub place_why : Ungraded → ℕ
place_why (Refused refusal) = refusal_place refusal
place_why (ShortMatrix words) = words
place_why (ShortClasses faults) = faults

-- an answer's number, place and counts; 0 where it has none
abbrev pub number_of : Answer → ℕ
number_of (Ok counts) = 0
number_of (Err why) = number_why why

abbrev pub place_of : Answer → ℕ
place_of (Ok counts) = 0
place_of (Err why) = place_why why

abbrev pub counts_meant : CountsRecord → Counts
counts_meant r = record { vectors = r.vectors; faults = r.faults; classes = r.classes; found = r.found; rounds = r.rounds }

abbrev pub counts_of : Answer → Counts
counts_of (Ok counts) = counts_meant counts
counts_of (Err why) = no_counts

-- the answer to a grading, and the buffers as they were and as they are then
pub record AnswersAs (grading : Grading) (answer : Answer) (before after : Buffers) : Type 0 where
  pub is_graded_lem : is_graded answer ≡ is_graded_in grading
  pub number : number_of answer ≡ number_in grading
  pub place : place_of answer ≡ place_in grading
  pub counts : counts_of answer ≡ counts_in grading
  pub buffers_at_exit : after ≡ buffers_after grading before

abbrev pub Promise : List ℕ → Buffers → Answer → Buffers → Type 0
Promise file before answer after = AnswersAs (grading_of file (room_of before)) answer before after

-- of a reading in place of the file: the promise of every file of which it tells
abbrev pub PromiseOfRead : ReadingRecord → Buffers → Answer → Buffers → Type 0
PromiseOfRead reading before answer after = (file : List ℕ) → Tells (reading_of file) reading → Promise file before answer after
