-- What writing leaves, and the heading of one report of several. Whether a write failed comes from outside.
use Rattle.std.specs.Prelude.{ℕ, ◌≡◌, Bool, true, false, List, [], ◌∷◌, ◌++◌, Option}
use Rattle.std.specs.Io.KnownBytes.{Appends}
use Rattle.words.specs.Written.{written}
use Rattle.print_lines.specs.Ascii.{bytes_of}
use Rattle.program_io.specs.declared.output.Output.{Output}

-- what is known after a write, whatever was written: a loss recorded before stays recorded, and a report begun stays begun
pub record TextWritten (before after : Output) : Type 0 where
  pub lost_stays : before.is_lost ≡ true → after.is_lost ≡ true
  pub report_stays : after.has_report ≡ before.has_report

-- what is known of a writer's bytes, where it says them: after a loss nothing more is written, and unless there is one a text stands behind
-- what stood
pub record TextPut (before after : Output) (old new : Option (List ℕ)) (text : List ℕ) : Type 0 where
  pub lost_stays : before.is_lost ≡ true → after.is_lost ≡ true
  pub after_loss : before.is_lost ≡ true → new ≡ old
  pub unless_lost : after.is_lost ≡ false → Appends old new text

-- a blank line, where a report stands above
abbrev pub blank_line : Bool → List ℕ
blank_line true = 10 ∷ []
blank_line false = []

unfoldable pub heading_text : Bool → List ℕ → List ℕ
heading_text above name = blank_line above ++ bytes_of "==> " ++ name ++ bytes_of " <==\n"

-- the heading put at a buffer's front, the rest as it was
pub record Headed (name : List ℕ) (before : Output) (buffer : List ℕ) (after : Output) (buffer' : List ℕ) : Type 0 where
  pub heading_put : buffer' ≡ written buffer 0 (heading_text before.has_report name)
  pub lost_stays : before.is_lost ≡ true → after.is_lost ≡ true
  pub report_begun : after.has_report ≡ true
