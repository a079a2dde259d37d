-- What the entry for any count of numbers promises: the numbers of the grading in a fixed order, as many as there is room for, and the
-- buffers at exit. A number that a later request adds stands behind these, so a caller lends room for those that it knows.
use Rattle.std.specs.Prelude.{ℕ, ◌≡◌, List, [], ◌∷◌, ◌++◌, length, take}
use Rattle.grading.specs.Buffers.{Buffers, room_of}
use Rattle.grading.specs.Grading.{Grading, grading_of, counts_in, buffers_after, over}
use Rattle.grading.specs.Promise.{Answer, number_of, place_of, counts_of}
use Rattle.togyamiru.specs.Entry.{six_numbers}

-- number, place, vectors, faults, classes, found, rounds
unfoldable pub all_numbers : Grading → List ℕ
all_numbers g = six_numbers g ++ ((counts_in g).rounds ∷ [])

-- the same of an answer
unfoldable pub numbers_of : Answer → List ℕ
numbers_of answer =
    let counts = counts_of answer in
    number_of answer ∷ place_of answer ∷ counts.vectors ∷ counts.faults ∷ counts.classes ∷ counts.found ∷ counts.rounds ∷ []

-- places past the last number keep their contents
pub record NumbersMeet (g : Grading) (before : Buffers) (numbers numbers' : List ℕ) (after : Buffers) : Type 0 where
  pub numbers_at_exit : numbers' ≡ over (take (length numbers) (all_numbers g)) numbers
  pub buffers_at_exit : after ≡ buffers_after g before

abbrev pub NumbersPromise : List ℕ → Buffers → List ℕ → List ℕ → Buffers → Type 0
NumbersPromise file before numbers numbers' after = NumbersMeet (grading_of file (room_of before)) before numbers numbers' after
