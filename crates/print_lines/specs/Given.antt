-- A line given into a lent buffer: at its front where there is room, the rest as it was; nothing, and None, where there is none.
use Rattle.std.specs.Prelude.{ℕ, ◌≡◌, cond, List, Option, Some, None, leb, length}
use Rattle.words.specs.Written.{written}

pub record LineGiven (line buffer : List ℕ) (count : Option ℕ) (after : List ℕ) : Type 0 where
  pub count_is : count ≡ cond (leb (length line) (length buffer)) (Some (length line)) None
  pub after_is : after ≡ cond (leb (length line) (length buffer)) (written buffer 0 line) buffer
