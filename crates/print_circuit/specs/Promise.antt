-- The promise of `show_piece`: a piece of the listing that the record of a reading tells. 512 bytes are room for every line, so that in a
-- buffer of as many a piece is empty only past the last line.
use Rattle.std.specs.Prelude.{ℕ, ◌≤◌, ◌<◌, List, length}
use Rattle.print_lines.specs.Pieces.{PieceGiven, line_in}
use Rattle.print_lines.specs.declared.Piece.{Piece}
use Rattle.circuit.specs.declared.Reading.{Reading as ReadingRecord}
use Rattle.print_circuit.specs.Told.{listing_told}

-- a piece of some lines
pub record LinesPiece (lines : List (List ℕ)) (from : ℕ) (buffer : List ℕ) (piece : Piece) (after : List ℕ) : Type 0 where
  pub given : PieceGiven (line_in lines) (length lines) from buffer piece after
  pub moves : from < length lines → 512 ≤ length buffer → 0 < piece.count

abbrev pub ListingPiece : ReadingRecord → ℕ → List ℕ → Piece → List ℕ → Type 0
ListingPiece reading from buffer piece after = LinesPiece (listing_told reading) from buffer piece after
