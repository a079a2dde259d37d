-- What the entry for C promises: the numbers of the grading in a fixed order, and the buffers at exit, as `grade` promises them.
use Rattle.std.specs.Prelude.{ℕ, ◌≡◌, List, [], ◌∷◌}
use Rattle.grading.specs.Buffers.{Buffers, room_of}
use Rattle.grading.specs.Grading.{Grading, grading_of, counts_in, number_in, place_in, buffers_after}

-- number, place, vectors, faults, classes, found
unfoldable pub six_numbers : Grading → List ℕ
six_numbers g =
    number_in g ∷ place_in g ∷ (counts_in g).vectors ∷ (counts_in g).faults ∷ (counts_in g).classes ∷ (counts_in g).found ∷ []

pub record EntryMeets (g : Grading) (before : Buffers) (answer' : List ℕ) (after : Buffers) : Type 0 where
  pub answer_at_exit : answer' ≡ six_numbers g
  pub buffers_at_exit : after ≡ buffers_after g before

abbrev pub EntryPromise : List ℕ → Buffers → List ℕ → Buffers → Type 0
EntryPromise file before answer' after = EntryMeets (grading_of file (room_of before)) before answer' after
