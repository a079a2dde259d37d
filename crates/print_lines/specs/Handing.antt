-- A text of numbered lines as it is handed over: each time the lines behind those before, from the first to the last.
use Rattle.std.specs.Prelude.{ℕ, ◌-◌, ◌≤◌, ◌≡◌, List, length, take}
use Rattle.print_lines.specs.Pieces.{text_from}
use Rattle.print_lines.specs.declared.Piece.{Piece}

-- the front of a buffer is exactly the lines from one on, up to the piece's end
pub record TextHandsOn (line : ℕ → List ℕ) (lines : ℕ) (piece : Piece) (out : List ℕ) : Type 0 where
  pub forth : lines ≤ piece.next
  pub within : piece.count ≤ length out
  pub text_is : take piece.count out ≡ text_from line lines (piece.next - lines)

-- so many lines are all of a text of `total` lines
abbrev pub TextHanded : ℕ → ℕ → Type 0
TextHanded total lines = lines ≡ total
