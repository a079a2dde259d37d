-- The text of one line that the tests tell gives pieces of it. Assumes nothing.
use Prim.Native.Nat.{ℕ, ◌≤◌, ◌<◌}
use mathlib.Core.Path.{◌≡◌}
use mathlib.Core.List.{List, ◌∷◌, []}
use native.Mathlib.Omega.{arith}
use lib.ListN.{length}
use Rattle.words.specs.Written.{written}
use Rattle.print_lines.specs.Pieces.{text_from}
use Rattle.print_lines.proofs.PieceLoop.{stand_none}
use Rattle.program_io.specs.Telling.{PieceTold}
use Rattle.program_io.proofs.tests.FirstTelling.piece.Goals as goal

abbrev one : ℕ → ℕ → List ℕ
one byte n = byte ∷ 10 ∷ []

-- nothing past the line, or where it has no room
none : (byte from : ℕ) (buffer : List ℕ) → (from < 1 → length buffer < 2)
    → PieceTold (one byte) 1 from buffer (record { next = from; count = 0 }) buffer
none byte from buffer short = record {
  given = record { stands = stand_none (one byte) from buffer; within = omega arith; full = short };
  moves = λ h room. absurd (omega (arith, short h));
}

-- the line
all : (byte from count : ℕ) (buffer after : List ℕ) → from ≡ 0 → 2 ≤ length buffer
    → count ≡ 2 → after ≡ written buffer 0 (one byte 0) → PieceTold (one byte) 1 from buffer (record { next = 1; count = count }) after
unfolding text_from
all byte from count buffer after first room two is = rw first (record {
  given = record {
    stands = record { forth = omega arith; count_is = two; room = omega arith; after_is = is };
    within = omega arith;
    full = λ h. absurd (omega (arith, h));
  };
  moves = λ h big. omega arith;
})

pub returns-in-0 : goal.returns-in-0
returns-in-0 c = λ file is.
    all _ c.args.from c.put_bytes.result c.args.out.now c.put_bytes.new.out c.in-0.is (omega arith) c.put_bytes.ensures.0
    (rw is at c.put_bytes.ensures.1)

pub returns-in_default : goal.returns-in_default
returns-in_default c = λ file is. none _ c.args.from c.args.out.now (λ h. omega arith)

pub returns-in_default-2 : goal.returns-in_default-2
returns-in_default-2 c = λ file is. none _ c.args.from c.args.out.now (λ h. omega arith)
