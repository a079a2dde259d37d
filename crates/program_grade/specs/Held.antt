-- What the program holds of a file, to tell its report.
use Rattle.std.specs.Prelude.{ℕ, ◌≡◌, List}
use Rattle.grading.specs.Buffers.{Buffers, room_of, room_for_all}
use Rattle.grading.specs.Promise.{Answer}
use Rattle.print_report.specs.Promise.{OutcomeOf}

-- what is held of a file: its outcome, from buffers with the room that the program gives
pub record FileHeld (file : List ℕ) (answer : Answer) (codes matrix classes : List ℕ) : Type 0 where
  pub before : Buffers
  pub room : room_of before ≡ room_for_all
  pub outcome : OutcomeOf file before answer codes matrix classes
