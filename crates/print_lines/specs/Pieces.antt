-- A text of numbered lines, from 0 on, given piece by piece into a lent buffer: a piece is as many whole lines as have room,
-- from the first that is wanted on.
-- The laws that other crates rest on follow; their proofs are in proofs/PieceLaws.
use Rattle.std.specs.Prelude.{ℕ, zero, suc, ◌+◌, ◌-◌, ◌≤◌, ◌<◌, max, ◌≡◌, List, [], ◌++◌, length, get_or}
use Rattle.words.specs.Written.{written}
use Rattle.print_lines.specs.declared.Piece.{Piece}

-- so many lines from one on, one behind the other
unfoldable pub text_from : (ℕ → List ℕ) → ℕ → ℕ → List ℕ
text_from line from zero = []
text_from line from (suc count) = line from ++ text_from line (suc from) count

-- a buffer that has at its front the lines from one up to another, the rest as it was
pub record LinesStand (line : ℕ → List ℕ) (from : ℕ) (buffer : List ℕ) (next count : ℕ) (after : List ℕ) : Type 0 where
  pub forth : from ≤ next
  pub count_is : count ≡ length (text_from line from (next - from))
  pub room : count ≤ length buffer
  pub after_is : after ≡ written buffer 0 (text_from line from (next - from))

-- a piece of a text of `total` lines: it ends at the text's end, or before a line that would not have fitted. Past the end it is empty
pub record PieceGiven (line : ℕ → List ℕ) (total from : ℕ) (buffer : List ℕ) (piece : Piece) (after : List ℕ) : Type 0 where
  pub stands : LinesStand line from buffer piece.next piece.count after
  pub within : piece.next ≤ max from total
  pub full : piece.next < total → length buffer < piece.count + length (line piece.next)

-- the line at a number in a list of lines; past the last it is empty
unfoldable pub line_in : List (List ℕ) → ℕ → List ℕ
line_in lines n = get_or lines n []

-- ---- laws

-- there is one piece only
abbrev pub OnePiece : Type 0
OnePiece =
    (line : ℕ → List ℕ) (total from : ℕ) (buffer : List ℕ) (p q : Piece) (after other : List ℕ)
    → PieceGiven line total from buffer p after → PieceGiven line total from buffer q other → (p ≡ q) × (after ≡ other)

-- pieces one behind the other are the text
abbrev pub PiecesJoin : Type 0
PiecesJoin = (line : ℕ → List ℕ) (from m n : ℕ) → text_from line from (m + n) ≡ text_from line from m ++ text_from line (from + m) n

-- where the next line has room a piece brings progress
abbrev pub PieceMoves : Type 0
PieceMoves =
    (line : ℕ → List ℕ) (total from : ℕ) (buffer : List ℕ) (piece : Piece) (after : List ℕ)
    → PieceGiven line total from buffer piece after → from < total → length (line from) ≤ length buffer → from < piece.next
