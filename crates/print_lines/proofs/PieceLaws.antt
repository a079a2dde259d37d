-- Laws of the pieces of a text of numbered lines: pieces join, there is one only, each brings progress where there is room. Assumes
-- nothing.
use Prim.Native.Nat.{ℕ, zero, suc, ◌+◌, ◌-◌, ◌≤◌, ◌<◌}
use mathlib.Core.Path.{◌≡◌, refl, sym, ap, ◌∙◌}
use mathlib.Core.Bool.{Bool, true, false}
use mathlib.Core.List.{List, [], ◌∷◌, ◌++◌, append-nil, append_assoc}
use native.Mathlib.Nat.{zero-add, add-zero, add-suc, suc-add}
use native.Mathlib.Omega.{arith}
use lib.Dec.{ltb}
use lib.ListN.{length, length-append}
use borrow.Author.Tests.{ltb-true, ltb-false}
use Rattle.words.specs.Written.{written}
use Rattle.print_lines.specs.Pieces.{text_from, line_in, PieceGiven, OnePiece, PiecesJoin, PieceMoves}
use Rattle.print_lines.specs.declared.Piece.{Piece}

-- ---- the text

module _ (line : ℕ → List ℕ) where
  text_add : (from m n : ℕ) → text_from line from (m + n) ≡ text_from line from m ++ text_from line (from + m) n
  unfolding text_from
  text_add from zero n = rw (zero-add, add-zero)
  text_add from (suc m) n =
      ap (λ (k : ℕ). text_from line from k) (suc-add m n)
      ∙ ap (λ (t : List ℕ). line from ++ t) (text_add (suc from) m n
      ∙ ap (λ (k : ℕ). text_from line (suc from) m ++ text_from line k n) (suc-add from m ∙ sym (add-suc from m)))
      ∙ sym (append_assoc (line from) (text_from line (suc from) m) (text_from line (from + suc m) n))

  -- one line more
  pub text_more : (from next : ℕ) → from ≤ next → text_from line from (suc next - from) ≡ text_from line from (next - from) ++ line next
  unfolding text_from
  text_more from next h =
      ap (λ (k : ℕ). text_from line from k) (count next h)
      ∙ text_add from (next - from) 1
      ∙ ap (λ (t : List ℕ). text_from line from (next - from) ++ t) (append-nil (line (from + (next - from))) ∙ ap line (here next h))
    where
      count : (next : ℕ) → from ≤ next → suc next - from ≡ next - from + 1
      count next h = omega arith

      here : (next : ℕ) → from ≤ next → from + (next - from) ≡ next
      here next h = omega arith

  -- the text up to a line, and that line, are no longer than the text up to a later one
  text_grows : (from m n : ℕ) → from ≤ m → m < n
      → length (text_from line from (m - from)) + length (line m) ≤ length (text_from line from (n - from))
  unfolding text_from
  text_grows from m n h l =
      let split : n - from ≡ suc m - from + (n - suc m) = omega arith in
      let all : length (text_from line from (n - from))
      ≡ length (text_from line from (suc m - from)) + length (text_from line (from + (suc m - from)) (n - suc m))
      = ap (λ (k : ℕ). length (text_from line from k)) split ∙ ap length (text_add from (suc m - from) (n - suc m))
      ∙ length-append (text_from line from (suc m - from)) (text_from line (from + (suc m - from)) (n - suc m)) in
      let one : length (text_from line from (suc m - from)) ≡ length (text_from line from (m - from)) + length (line m)
      = ap length (text_more from m h) ∙ length-append (text_from line from (m - from)) (line m) in
      omega (arith, all, one)

  text_shifted : (from n : ℕ) → text_from line (suc from) n ≡ text_from (λ (k : ℕ). line (suc k)) from n
  unfolding text_from
  text_shifted from zero = refl
  text_shifted from (suc n) = ap (λ (t : List ℕ). line (suc from) ++ t) (text_shifted (suc from) n)

-- all lines of a list, one behind the other; `join` is any function that joins lists
module _ (join : List (List ℕ) → List ℕ) (join-nil : join [] ≡ [])
    (join-cons : (l : List ℕ) (ls : List (List ℕ)) → join (l ∷ ls) ≡ l ++ join ls) where
  pub text_of_list : (lines : List (List ℕ)) → join lines ≡ text_from (line_in lines) 0 (length lines)
  unfolding text_from line_in
  text_of_list [] = join-nil
  text_of_list (l ∷ ls) =
      join-cons l ls
      ∙ ap (λ (t : List ℕ). l ++ t) (text_of_list ls ∙ sym (text_shifted (line_in (l ∷ ls)) 0 (length ls)))

pub pieces_join : PiecesJoin
pieces_join line from m n = text_add line from m n

-- ---- pieces

module _ (line : ℕ → List ℕ) (total from : ℕ) (buffer : List ℕ) where
  not_before : (p q : Piece) (after other : List ℕ) → PieceGiven line total from buffer p after → PieceGiven line total from buffer q other
      → q.next ≤ p.next
  not_before p q after other one two = go (ltb p.next q.next) refl
    where
      go : (b : Bool) → ltb p.next q.next ≡ b → q.next ≤ p.next
      go true e =
          let before : p.next < q.next = ltb-true p.next q.next e in
          absurd (omega (
            arith,
            one.full (omega (arith, before, two.within, one.stands.forth)),
            one.stands.count_is,
            two.stands.count_is,
            two.stands.room,
            text_grows line from p.next q.next one.stands.forth before,
          ))
      go false e = omega (arith, ltb-false p.next q.next e)

  one_place : (p q : Piece) (after other : List ℕ) → PieceGiven line total from buffer p after → PieceGiven line total from buffer q other
      → p.next ≡ q.next
  one_place p q after other one two = omega (arith, not_before p q after other one two, not_before q p other after two one)

pub one_piece : OnePiece
one_piece line total from buffer p q after other one two =
    let e = one_place line total from buffer p q after other one two in
    let counts : p.count ≡ q.count
    = one.stands.count_is ∙ ap (λ (n : ℕ). length (text_from line from (n - from))) e ∙ sym two.stands.count_is in (
      ap (λ (n : ℕ). record { next = n; count = p.count }) e ∙ ap (λ (n : ℕ). record { next = q.next; count = n }) counts,
      one.stands.after_is ∙ ap (λ (n : ℕ). written buffer 0 (text_from line from (n - from))) e ∙ sym two.stands.after_is,
    )

pub piece_moves : PieceMoves
unfolding text_from
piece_moves line total from buffer piece after given h room = go (ltb from piece.next) refl
  where
    go : (b : Bool) → ltb from piece.next ≡ b → from < piece.next
    go true e = ltb-true from piece.next e
    go false e =
        let here : piece.next ≡ from = omega (arith, ltb-false from piece.next e, given.stands.forth) in
        let nothing : piece.next - from ≡ 0 = omega (arith, here) in
        let none : piece.count ≡ 0 = given.stands.count_is ∙ ap (λ (n : ℕ). length (text_from line from n)) nothing in
        absurd (omega (arith, here, given.full (omega (arith, here)), none, ap (λ (n : ℕ). length (line n)) here))

-- and it is not empty where that line is not
pub piece-some : (line : ℕ → List ℕ) (total from : ℕ) (buffer : List ℕ) (piece : Piece) (after : List ℕ)
    → PieceGiven line total from buffer piece after → from < total → 0 < length (line from) → length (line from) ≤ length buffer
    → 0 < piece.count
piece-some line total from buffer piece after given h some room =
    let moves = piece_moves line total from buffer piece after given h room in
    omega (arith, given.stands.count_is, text_grows line from from piece.next (omega arith) moves, some)

-- and it is not empty if no line is, and the line behind it would have room in the whole buffer
pub piece-not-empty : (line : ℕ → List ℕ) (total from : ℕ) (buffer : List ℕ) (piece : Piece) (after : List ℕ)
    → PieceGiven line total from buffer piece after → ((k : ℕ) → k < total → 0 < length (line k)) → from < total
    → length (line piece.next) ≤ length buffer → 0 < piece.count
piece-not-empty line total from buffer piece after given filled more room = go (ltb from piece.next) refl
  where
    go : (b : Bool) → ltb from piece.next ≡ b → 0 < piece.count
    go true e =
        let moves : from < piece.next = ltb-true from piece.next e in
        omega (arith, given.stands.count_is, text_grows line from from piece.next (omega arith) moves, filled from more)
    go false e = omega (arith, given.full (omega (arith, ltb-false from piece.next e, more)), room)
