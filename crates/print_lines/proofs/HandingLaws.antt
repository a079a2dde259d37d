-- Laws of a text as it is handed over: a piece is the lines behind those before, one that is not empty brings a line at least, and an
-- empty one
-- tells that all lines were handed over, if pieces are empty only past the last line. And the turns of a loop that hands it over. Assumes
-- nothing.
use Prim.Native.Nat.{ℕ, ◌-◌, ◌≤◌, ◌<◌}
use mathlib.Core.Path.{◌≡◌, refl, sym, ap, ◌∙◌}
use mathlib.Core.Bool.{Bool, true, false}
use mathlib.Core.List.{List}
use native.Mathlib.Nat.{zero-add}
use native.Mathlib.Omega.{arith}
use lib.Dec.{ltb}
use lib.ListN.{length, take}
use borrow.Author.Tests.{ltb-true, ltb-false}
use Rattle.words.specs.Written.{written}
use Rattle.words.proofs.WrittenLaws.{take_written}
use Rattle.print_lines.specs.Pieces.{text_from, PieceGiven}
use Rattle.print_lines.specs.Handing.{TextHandsOn, TextHanded}
use Rattle.print_lines.specs.declared.Piece.{Piece}
use Rattle.print_lines.proofs.PieceLoop.{stand_length}

module _ {line : ℕ → List ℕ} {total from : ℕ} {buffer : List ℕ} {piece : Piece} {after : List ℕ}
    (given : PieceGiven line total from buffer piece after) where
  hands_on : TextHandsOn line from piece after
  hands_on =
      let stands = given.stands in
      let text = text_from line from (piece.next - from) in
      record {
        forth = stands.forth;
        within = omega (arith, stands.room, stand_length line from buffer piece.next piece.count after stands);
        text_is = ap (λ (l : List ℕ). take piece.count l) stands.after_is
            ∙ ap (λ (n : ℕ). take n (written buffer 0 text)) (stands.count_is ∙ sym (zero-add (length text)))
            ∙ take_written buffer 0 text (omega (arith, stands.room, stands.count_is));
      }

  moved : 0 < piece.count → from < piece.next
  unfolding text_from
  moved some = go (ltb from piece.next) refl
    where
      go : (b : Bool) → ltb from piece.next ≡ b → from < piece.next
      go true e = ltb-true from piece.next e
      go false e =
          let none : piece.next - from ≡ 0 = omega (arith, ltb-false from piece.next e) in
          absurd (omega (arith, some, given.stands.count_is ∙ ap (λ (n : ℕ). length (text_from line from n)) none))

  all_handed : from ≤ total → (from < total → 0 < piece.count) → piece.count ≡ 0 → TextHanded total from
  all_handed within moves none = go (ltb from total) refl
    where
      go : (b : Bool) → ltb from total ≡ b → TextHanded total from
      go true e = absurd (omega (arith, none, moves (ltb-true from total e)))
      go false e = omega (arith, within, ltb-false from total e)

-- ---- what a loop that hands a text over holds

-- the lines before the next were handed over, and the buffer has room for any line
pub record HandingOver (total lines next : ℕ) (before out : List ℕ) : Type 0 where
  pub counted : lines ≡ next
  pub within : next ≤ total
  pub roomy : 512 ≤ length out
  pub same_size : length out ≡ length before

pub handing-begins : {total lines : ℕ} {out : List ℕ} → lines ≡ 0 → 512 ≤ length out → HandingOver total lines 0 out out
handing-begins none room = record { counted = none; within = omega arith; roomy = room; same_size = refl }

module _ {line : ℕ → List ℕ} {total lines next : ℕ} {before out : List ℕ} {piece : Piece} {after : List ℕ}
    (holds : HandingOver total lines next before out) (given : PieceGiven line total next out piece after) where
  pub hands_next : TextHandsOn line lines piece after
  hands_next = rw holds.counted (hands_on given)

  pub less_left : 0 < piece.count → total - piece.next < total - next
  less_left some = omega (arith, moved given some, given.within, holds.within)

  pub handing_goes_on : {handed : ℕ} → handed ≡ piece.next → HandingOver total handed piece.next before after
  handing_goes_on so-many =
      let long = stand_length line next out piece.next piece.count after given.stands in
      record {
        counted = so-many;
        within = omega (arith, given.within, holds.within);
        roomy = omega (arith, long, holds.roomy);
        same_size = long ∙ holds.same_size;
      }

  pub handing_ends : (next < total → 512 ≤ length out → 0 < piece.count) → piece.count ≡ 0 → TextHanded total lines
  handing_ends moves none = holds.counted ∙ all_handed given holds.within (λ (more : next < total). moves more holds.roomy) none
