-- The numbers of an answer that keeps the promise of `grade` are those of the grading: all of them, as many as have room, and the first
-- six.
use Prim.Native.Nat.{ℕ}
use mathlib.Core.Path.{◌≡◌, ap, ◌∙◌}
use mathlib.Core.List.{List, [], ◌∷◌, ◌++◌}
use native.Mathlib.Omega.{arith}
use lib.ListN.{length, take, drop_of_length-le}
use Rattle.grading.specs.Buffers.{Buffers}
use Rattle.grading.specs.Grading.{Counts, Grading, number_in, place_in, over}
use Rattle.grading.specs.Promise.{Answer, place_of, counts_of, AnswersAs}
use Rattle.togyamiru.specs.Entry.{six_numbers, EntryMeets}
use Rattle.togyamiru.specs.NumbersEntry.{all_numbers, numbers_of, NumbersMeet}

-- numbers in a row, with counts that are given whole
abbrev pub numbers : ℕ → ℕ → Counts → List ℕ
numbers n p counts = n ∷ p ∷ counts.vectors ∷ counts.faults ∷ counts.classes ∷ counts.found ∷ counts.rounds ∷ []

module _ (g : Grading) (answer : Answer) (before after : Buffers) (all : List ℕ) (answers : AnswersAs g answer before after)
    (told : all ≡ numbers_of answer) where
  pub numbers_are : all ≡ all_numbers g
  unfolding numbers_of all_numbers six_numbers
  numbers_are =
      told
      ∙ ap (λ (m : ℕ). numbers m (place_of answer) (counts_of answer)) answers.number
      ∙ ap (λ (m : ℕ). numbers (number_in g) m (counts_of answer)) answers.place
      ∙ ap (numbers (number_in g) (place_in g)) answers.counts

  pub numbers_met : (room room' : List ℕ) → room' ≡ over (take (length room) all) room → NumbersMeet g before room room' after
  numbers_met room room' put = record {
    numbers_at_exit = put ∙ ap (λ (l : List ℕ). over (take (length room) l) room) numbers_are;
    buffers_at_exit = answers.buffers_at_exit;
  }

-- with room for six, they are the six
pub six_numbers_lem : (g : Grading) (before after : Buffers) (room room' : List ℕ)
    → NumbersMeet g before room room' after → length room ≡ 6 → EntryMeets g before room' after
unfolding all_numbers six_numbers over
six_numbers_lem g before after room room' met six = record {
  answer_at_exit = met.numbers_at_exit
      ∙ ap (λ (n : ℕ). over (take n (all_numbers g)) room) six
      ∙ ap (λ (l : List ℕ). six_numbers g ++ l) (drop_of_length-le room {i = 6} (omega arith));
  buffers_at_exit = met.buffers_at_exit;
}
