-- What the demands speak of: accepted files, calls of `grade` with what they were given and what they gave, and what stands in the buffers
-- then.
use Rattle.std.specs.Prelude.{ℕ, ◌+◌, ◌*◌, ◌/◌, ◌%◌, ◌≡◌, List, T, get_or, Ok, Err}
use Rattle.words.specs.Bits.{bit}
use Rattle.circuit.specs.Circuit.{Circuit}
use Rattle.circuit.specs.Reading.{accepted, reading_of}
use Rattle.circuit.specs.Refusals.{refusal_number, refusal_place}
use Rattle.grading.specs.Buffers.{Buffers}
use Rattle.grading.specs.Promise.{Answer, is_graded, Promise}
use Rattle.grading.specs.declared.Ungraded.TheVariants.{Refused, ShortMatrix, ShortClasses}

-- a file that is read as this circuit
abbrev pub Accepts : List ℕ → Circuit → Type 0
Accepts file c = reading_of file ≡ accepted c

-- a call of `grade`: the file and the buffers that it was given; the answer, and the buffers as they are then
pub record Call : Type 0 where
  pub file : List ℕ
  pub before : Buffers
  pub answer : Answer
  pub after : Buffers

-- the promise of `grade` holds of it
abbrev pub Kept : Call → Type 0
Kept call = Promise call.file call.before call.answer call.after

-- a call that graded its file, which is read as this circuit
pub record GradedAs (call : Call) (c : Circuit) : Type 0 where
  pub kept : Kept call
  pub accepts : Accepts call.file c
  pub graded : T (is_graded call.answer)

-- refused with this number at this place
unfoldable pub Refuses : Answer → ℕ → ℕ → Type 0
Refuses (Ok counts) number place = ⊥
Refuses (Err (Refused refusal)) number place = (refusal_number refusal ≡ number) × (refusal_place refusal ≡ place)
Refuses (Err (ShortMatrix words)) number place = (15 ≡ number) × (words ≡ place)
Refuses (Err (ShortClasses faults)) number place = (22 ≡ number) × (faults ≡ place)

-- the cell of a row and a vector, both counted from 0: vector v, from 1, is bit (v - 1) mod 64 of word floor((v - 1) / 64) of its row's
-- four
unfoldable pub cell_at : List ℕ → ℕ → ℕ → ℕ
cell_at matrix r v = bit (get_or matrix (4 * r + v / 64) 0) (v % 64)

-- the class of a row, counted from 0
unfoldable pub class_at : List ℕ → ℕ → ℕ
class_at classes r = get_or classes r 0
