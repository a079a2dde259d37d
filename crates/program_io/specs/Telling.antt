-- What a program tells of a file, and of its inputs one behind the other: a text of numbered lines, handed over from the first to the last.
use Rattle.std.specs.Prelude.{ℕ, zero, suc, ◌≤◌, ◌<◌, ◌≡◌, ◌⊎◌, List, length, Option}
use Rattle.print_lines.specs.Pieces.{PieceGiven, text_from}
use Rattle.print_lines.specs.declared.Piece.{Piece}
use Rattle.program_io.specs.Inputs.{HeadingPut}
use Rattle.program_io.specs.Outputs.{TextPut}
use Rattle.program_io.specs.declared.output.Output.{Output}

-- a piece of a text of `total` lines. 512 bytes are room for each line, so that in a buffer of as many it is empty only past the last
pub record PieceTold (line : ℕ → List ℕ) (total from : ℕ) (buffer : List ℕ) (piece : Piece) (after : List ℕ) : Type 0 where
  pub given : PieceGiven line total from buffer piece after
  pub moves : from < total → 512 ≤ length buffer → 0 < piece.count

-- what a program tells of a file, whose lines by their numbers and count are these
abbrev pub text_told : (List ℕ → ℕ → List ℕ) → (List ℕ → ℕ) → List ℕ → List ℕ
text_told line total file = text_from (line file) 0 (total file)

-- in a writer that says its bytes all that a file tells stands behind what stood
abbrev pub FilePut : (List ℕ → List ℕ) → List ℕ → Output → Output → Option (List ℕ) → Option (List ℕ) → Type 0
FilePut text file before after old new = TextPut before after old new (text file)

-- and of an input nothing, or a heading and what some bytes tell. That there is nothing only where it could not be read, and that the
-- bytes are those that were read, is left to reading
abbrev pub InputPut : (List ℕ → Output → Output → Option (List ℕ) → Option (List ℕ) → Type 0)
    → Output → Output → Option (List ℕ) → Option (List ℕ) → Type 0
InputPut Put before after old new =
    ((after ≡ before) × (new ≡ old))
    ⊎ ((headed : Output) × (mid : Option (List ℕ)) × (file : List ℕ)
    × HeadingPut before headed old mid × Put file headed after mid new)

module _ (OnePut : Output → Output → Option (List ℕ) → Option (List ℕ) → Type 0) where
  -- and of so many inputs that of each, one behind the other
  unfoldable pub InputsPut : ℕ → Output → Output → Option (List ℕ) → Option (List ℕ) → Type 0
  InputsPut zero before after old new = (after ≡ before) × (new ≡ old)
  InputsPut (suc count) before after old new =
      (between : Output) × (mid : Option (List ℕ)) × InputsPut count before between old mid × OnePut between after mid new

  -- a program has one input or more
  abbrev pub AllPut : Output → Output → Option (List ℕ) → Option (List ℕ) → Type 0
  AllPut before after old new = (count : ℕ) × (1 ≤ count) × InputsPut count before after old new
