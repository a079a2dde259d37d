-- The turns of a loop that makes a piece of a text: the lines passed stand at the buffer's front; a line that has room is added, one that
-- has none ends the piece.
-- Assumes nothing.
use Prim.Native.Nat.{ℕ, suc, ◌+◌, ◌-◌, ◌≤◌, ◌<◌, max}
use mathlib.Core.Path.{◌≡◌, refl, sym, ap, ◌∙◌}
use mathlib.Core.List.{List, [], ◌++◌, append-nil, append_assoc}
use native.Mathlib.Nat.{zero-add}
use native.Mathlib.Numerals.{add-one}
use native.Mathlib.Omega.{arith}
use lib.ListN.{length, take, drop, length-append, length-drop, drop_of_length-le}
use lib.Seq.{take_all, drop-drop}
use borrow.Rule.Slice.PartMut.{mid_of, post_of, put_mid, mid_len, put_same}
use Rattle.std.specs.Prelude.{Option, Some, None}
use Rattle.words.specs.Written.{written}
use Rattle.words.proofs.WrittenLaws.{written_nothing, written_written, length_written}
use Rattle.print_lines.specs.Given.{LineGiven}
use Rattle.print_lines.specs.Pieces.{text_from, LinesStand, PieceGiven}
use Rattle.print_lines.proofs.PieceLaws.{text_more}
use Rattle.print_lines.proofs.Within.{Stands, given-some, given-none}

-- a line written at the front of the rest of a buffer
rest-written : (at : ℕ) (out line : List ℕ) → at ≤ length out
    → put_mid at (length out - at) out (written (mid_of at (length out - at) out) 0 line) ≡ written out at line
unfolding written
rest-written at out line h =
    let rest : mid_of at (length out - at) out ≡ drop at out = take_all (length out - at) (drop at out)
    (omega (arith, length-drop at out)) in
    let none : post_of at (length out - at) out ≡ [] = drop_of_length-le (drop at out) {i = length out - at}
    (omega (arith, length-drop at out)) in
    let behind : drop (0 + length line) (drop at out) ≡ drop (at + length line) out
    = ap (λ (n : ℕ). drop n (drop at out)) (zero-add (length line)) ∙ drop-drop (length line) at out in
    ap (λ (l : List ℕ). take at out ++ (written l 0 line ++ post_of at (length out - at) out)) rest
    ∙ ap (λ (l : List ℕ). take at out ++ (written (drop at out) 0 line ++ l)) none
    ∙ ap (λ (l : List ℕ). take at out ++ l) (append-nil (written (drop at out) 0 line))
    ∙ ap (λ (l : List ℕ). take at out ++ (line ++ l)) behind
    ∙ sym (append_assoc (take at out) line (drop (at + length line) out))

module _ (line : ℕ → List ℕ) (from : ℕ) (buffer : List ℕ) where
  -- no line yet
  pub stand_none : LinesStand line from buffer from 0 buffer
  unfolding text_from
  stand_none =
      let none : from - from ≡ 0 = omega arith in
      record {
        forth = omega arith;
        count_is = rw none;
        room = omega arith;
        after_is = rw none (sym (written_nothing buffer 0));
      }

  module _ (next count : ℕ) (out : List ℕ) (so_far : LinesStand line from buffer next count out) where
    -- the buffer keeps its length
    pub stand_length : length out ≡ length buffer
    stand_length = ap length so_far.after_is ∙ length_written buffer 0 (text_from line from (next - from))
        (omega (arith, so_far.count_is, so_far.room))

    -- the next line was given into the rest of the buffer, or there was no room for it
    module _ {given : Option ℕ} {after : List ℕ} (handed : LineGiven (line next) (mid_of count (length out - count) out) given after) where
      size : length (mid_of count (length out - count) out) ≡ length out - count
      size = mid_len count (length out) out (omega (arith, stand_length, so_far.count_is, so_far.room))

      module _ {bytes : ℕ} (some : given ≡ Some bytes) where
        there : Stands (line next) (mid_of count (length out - count) out) bytes after
        there = given-some handed bytes some

        -- one more line behind what stands
        pub stand_more : LinesStand line from buffer (suc next) (count + bytes) (put_mid count (length out - count) out after)
        stand_more =
            let room : count + length (line next) ≤ length buffer = omega (arith, there.room, size, stand_length, so_far.room) in
            let all : length (text_from line from (suc next - from)) ≡ length (text_from line from (next - from)) + length (line next)
            = ap length (text_more line from next so_far.forth) ∙ length-append (text_from line from (next - from)) (line next) in
            record {
              forth = omega (arith, so_far.forth);
              count_is = omega (arith, there.count_is, so_far.count_is, all);
              room = omega (arith, there.count_is, room);
              after_is = ap (λ (l : List ℕ). put_mid count (length out - count) out l) there.after_is
                  ∙ rest-written count out (line next) (omega (arith, stand_length, so_far.room))
                  ∙ ap (λ (l : List ℕ). written l count (line next)) so_far.after_is
                  ∙ ap (λ (n : ℕ). written (written buffer 0 (text_from line from (next - from))) n (line next))
                  (so_far.count_is ∙ sym (zero-add (length (text_from line from (next - from)))))
                  ∙ written_written buffer 0 (text_from line from (next - from)) (line next)
                  (omega (arith, room, so_far.count_is, length-append (text_from line from (next - from)) (line next)))
                  ∙ ap (λ (t : List ℕ). written buffer 0 t) (sym (text_more line from next so_far.forth));
            }

        pub more_fits : count + bytes ≤ length out
        more_fits = omega (arith, there.count_is, there.room, size, stand_length, so_far.room)

      module _ (none : given ≡ None) where
        kept : put_mid count (length out - count) out after ≡ out
        kept = ap (λ (l : List ℕ). put_mid count (length out - count) out l) (given-none handed none).1
            ∙ put_same count (length out - count) out

        no_room : length buffer < count + length (line next)
        no_room = omega (arith, (given-none handed none).0, size, stand_length, so_far.room)

-- ---- what the loop holds

-- of a text of `total` lines, those from `from` up to `next` stand in the first `count` bytes
pub record PieceSoFar (line : ℕ → List ℕ) (total from : ℕ) (buffer : List ℕ) (next count : ℕ) (out : List ℕ) : Type 0 where
  pub stands : LinesStand line from buffer next count out
  pub fits : count ≤ length out
  pub same_size : length out ≡ length buffer
  pub within : next ≤ max from total

pub piece-begins : {line : ℕ → List ℕ} {total from : ℕ} {buffer : List ℕ} → PieceSoFar line total from buffer from 0 buffer
piece-begins {line} {total} {from} {buffer} = record {
  stands = stand_none line from buffer;
  fits = omega arith;
  same_size = refl;
  within = omega arith;
}

module _ {line : ℕ → List ℕ} {total from : ℕ} {buffer : List ℕ} {next count : ℕ} {out : List ℕ}
    (so_far : PieceSoFar line total from buffer next count out) where
  -- no line is left
  pub piece_ends : total ≤ next → PieceGiven line total from buffer (record { next = next; count = count }) out
  piece_ends all = record {
    stands = so_far.stands;
    within = so_far.within;
    full = λ (more : next < total). absurd (omega (arith, all, more));
  }

  module _ {given : Option ℕ} {after : List ℕ} (handed : LineGiven (line next) (mid_of count (length out - count) out) given after) where
    -- the next line was given into the rest of the buffer
    module _ {bytes : ℕ} (some : given ≡ Some bytes) where
      pub count_fits : count + bytes ≤ length out
      count_fits = more_fits line from buffer next count out so_far.stands handed some

      pub piece_grows : next < total → PieceSoFar line total from buffer (next + 1) (count + bytes)
          (put_mid count (length out - count) out after)
      piece_grows more =
          let stands = stand_more line from buffer next count out so_far.stands handed some in
          let long = stand_length line from buffer (suc next) (count + bytes) (put_mid count (length out - count) out after) stands in
          rw add-one (record { stands = stands; fits = omega (arith, long, stands.room); same_size = long; within = omega arith })

    -- or there was no room for it
    pub piece_full : given ≡ None → PieceGiven line total from buffer (record { next = next; count = count })
        (put_mid count (length out - count) out after)
    piece_full none = record {
      stands = rw (kept line from buffer next count out so_far.stands handed none) so_far.stands;
      within = so_far.within;
      full = λ (more : next < total). no_room line from buffer next count out so_far.stands handed none;
    }
