-- A line that was given into a buffer: where it has a length it had room and stands at the front; where it has none it had no room, and
-- the buffer is as it was.
-- And an equal line was given too. Assumes nothing.
use Prim.Native.Nat.{ℕ, ◌≤◌, ◌<◌}
use mathlib.Core.Path.{◌≡◌, refl}
use mathlib.Core.Bool.{Bool, true, false, cond}
use mathlib.Core.List.{List}
use lib.Dec.{leb}
use lib.ListN.{length}
use borrow.Author.Tests.{leb-true, leb-false}
use native.Mathlib.Omega.{arith}
use Rattle.std.specs.Prelude.{Option, Some, None}
use Rattle.words.specs.Written.{written}
use Rattle.print_lines.specs.Given.{LineGiven}

pub record Stands (line buffer : List ℕ) (count : ℕ) (after : List ℕ) : Type 0 where
  pub count_is : count ≡ length line
  pub room : length line ≤ length buffer
  pub after_is : after ≡ written buffer 0 line

module _ {line buffer : List ℕ} {given : Option ℕ} {after : List ℕ} (handed : LineGiven line buffer given after) where
  pub given-some : (count : ℕ) → given ≡ Some count → Stands line buffer count after
  given-some count some = go (leb (length line) (length buffer)) refl handed.count_is handed.after_is
    where
      go : (fits : Bool) → leb (length line) (length buffer) ≡ fits → given ≡ cond fits (Some (length line)) None
          → after ≡ cond fits (written buffer 0 line) buffer → Stands line buffer count after
      go true e count_is after_is = record { count_is = grind arith; room = leb-true _ _ e; after_is = after_is }
      go false e count_is after_is = absurd (grind arith)

  pub given-none : given ≡ None → (length buffer < length line) × (after ≡ buffer)
  given-none none = go (leb (length line) (length buffer)) refl handed.count_is handed.after_is
    where
      go : (fits : Bool) → leb (length line) (length buffer) ≡ fits → given ≡ cond fits (Some (length line)) None
          → after ≡ cond fits (written buffer 0 line) buffer → (length buffer < length line) × (after ≡ buffer)
      go true e count_is after_is = absurd (grind arith)
      go false e count_is after_is = (leb-false _ _ e, after_is)

pub given-line : {line other buffer after : List ℕ} {given : Option ℕ} → line ≡ other → LineGiven line buffer given after
    → LineGiven other buffer given after
given-line e g = rw (← e) g
