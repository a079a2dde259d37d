-- `print_circuit::show_piece` meets its contract. Assumes nothing.
use Prim.Native.Nat.{ℕ, ◌+◌, ◌-◌, ◌≤◌, ◌<◌}
use mathlib.Core.Path.{◌≡◌, ap, ◌∙◌}
use mathlib.Core.List.{List}
use native.Mathlib.Decide.{dec_lt}
use native.Mathlib.Omega.{arith}
use borrow.Rule.Slice.PartMut.{mid_of, put_mid, put_same}
use lib.ListN.{length}
use Rattle.std.specs.Prelude.{Option, Some, None}
use Rattle.print_lines.specs.Pieces.{line_in, PieceGiven}
use Rattle.print_lines.proofs.PieceLaws.{piece-not-empty}
use Rattle.print_lines.proofs.PieceLoop.{PieceSoFar, piece-begins, piece_ends, count_fits, piece_grows, piece_full}
use Rattle.print_lines.proofs.Within.{given-some}
use Rattle.print_circuit.specs.Sought.{LineAt, most_lines}
use Rattle.print_circuit.specs.Told.{listing_told}
use Rattle.print_circuit.proofs.FilledLaws.{filled_at, listing_filled}
use Rattle.print_circuit.proofs.show_piece.Goals as goal

-- a turn: the next line, asked for the rest of the buffer
module _ {lines : List (List ℕ)} {from : ℕ} {buffer : List ℕ} {next count : ℕ} {out : List ℕ} (so_far : PieceSoFar (line_in lines) (length lines) from buffer next count out)
    {given : Option ℕ} {after : List ℕ} (asked : LineAt lines most_lines next (mid_of count (length out - count) out) given after) where
  -- a length is told of a line of the listing alone
  there : {bytes : ℕ} → given ≡ Some bytes → next < length lines
  there {bytes} some = go (dec_lt next (length lines))
    where
      go : Dec (next < length lines) → next < length lines
      go (yes h) = h
      go (no h) = let none : given ≡ None = (asked.past (omega arith)).0 in absurd (grind arith)

  grows : {bytes : ℕ} → given ≡ Some bytes
      → (count + bytes ≤ length out) × PieceSoFar (line_in lines) (length lines) from buffer (next + 1) (count + bytes) (put_mid count (length out - count) out after)
  unfolding line_in
  grows some = (count_fits so_far (asked.given (there some)) some, piece_grows so_far (asked.given (there some)) some (there some))

  ends : given ≡ None → PieceGiven (line_in lines) (length lines) from buffer (record { next = next; count = count }) (put_mid count (length out - count) out after)
  unfolding line_in
  ends none = go (dec_lt next (length lines))
    where
      go : Dec (next < length lines) → PieceGiven (line_in lines) (length lines) from buffer (record { next = next; count = count }) (put_mid count (length out - count) out after)
      go (yes h) = piece_full so_far (asked.given h) none
      go (no h) =
          let kept : put_mid count (length out - count) out after ≡ out
          = ap (λ (l : List ℕ). put_mid count (length out - count) out l) (asked.past (omega arith)).1 ∙ put_same count (length out - count) out in
          rw kept (piece_ends so_far (omega arith))

pub loop-given-init : goal.loop-given-init
loop-given-init c = piece-begins

pub overflow_add-next : goal.overflow_add-next
overflow_add-next c = omega (arith, c.one_line.ensures.near (there c.loop-given.invariant c.one_line.ensures c.in-Some.is))

pub loop-given-smaller : goal.loop-given-smaller
loop-given-smaller c =
    let so_far = c.loop-given.invariant in
    let asked = c.one_line.ensures in
    let inside = there so_far asked c.in-Some.is in
    let bytes = (given-some (asked.given inside) c.in-Some.given c.in-Some.is).count_is in
    omega (arith, bytes, filled_at (listing_told c.args.reading.now) c.loop-given.next (listing_filled c.args.reading.now) inside, (grows so_far asked c.in-Some.is).0)

pub loop-given-preserved : goal.loop-given-preserved
loop-given-preserved c = (grows c.loop-given.invariant c.one_line.ensures c.in-Some.is).1

pub returns : goal.returns
unfolding line_in
returns c =
    let lines : List (List ℕ) = listing_told c.args.reading.now in
    let filled : (n : ℕ) → n < length lines → 0 < length (line_in lines n) = λ (n : ℕ) (h : n < length lines). filled_at lines n (listing_filled _) h in
    let piece = ends c.loop-given.invariant c.one_line.ensures c.in_default.is in
    record {
      given = piece;
      moves = λ (more : c.args.from < length lines) (room : 512 ≤ length c.args.out.now).
          piece-not-empty _ _ _ _ _ _ piece filled more (omega (arith, c.one_line.ensures.short, room));
    }
