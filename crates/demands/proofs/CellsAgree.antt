-- Two calls that graded one circuit and meet the clause on cells agree in all words of the rows: a cell that is not marked is 0, and past
-- the last vector all are, so that each of a word's 64 bits is told.
use Prim.Native.Nat.{ℕ, ◌+◌, ◌-◌, ◌*◌, ◌/◌, ◌%◌, ◌^◌, ◌≤◌, ◌<◌}
use mathlib.Core.Path.{◌≡◌, sym, ap, ◌∙◌}
use mathlib.Core.List.{List}
use native.Mathlib.Decide.{ℕ_discrete, dec_lt}
use native.Mathlib.Omega.{arith}
use lib.ListN.{length, get_or, drop}
use lib.Seq.{ext_get_or, get_or-drop}
use Rattle.words.specs.Bits.{bit, word}
use Rattle.words.specs.Tables.{up_to}
use Rattle.words.proofs.Laws.{bit_le_one, of_bool_le_one, bits_eq, word_lt}
use Rattle.words.proofs.Rows.{row_word, up_to_le_one}
use Rattle.circuit.specs.Circuit.{Circuit}
use Rattle.grading.specs.Rows.{Row, no_row, rows_of, cell, mark_of, row_words, matrix_of}
use Rattle.grading.specs.Grading.{over}
use Rattle.grade_classes.proofs.FoundMeaning.{words_are}
use Rattle.demands.specs.Calls.{Call, GradedAs, cell_at}
use Rattle.demands.specs.Two.{row_at, vector_of, MatrixCell, mark_in, CellsTell}
use Rattle.demands.proofs.Gave.{gave}

-- lists that are as long, with the same n elements in front and the same behind them
pub same_lists : (n : ℕ) (xs ys : List ℕ) → length xs ≡ length ys → ((i : ℕ) → i < n → get_or xs i 0 ≡ get_or ys i 0)
    → drop n xs ≡ drop n ys → xs ≡ ys
same_lists n xs ys long front behind = ext_get_or 0 xs ys long (λ i h. go i (dec_lt i n))
  where
    go : (i : ℕ) → Dec (i < n) → get_or xs i 0 ≡ get_or ys i 0
    go i (yes h) = front i h
    go i (no h) =
        let place : n + (i - n) ≡ i = omega arith in
        ap (λ (j : ℕ). get_or xs j 0) (sym place)
        ∙ sym (get_or-drop n xs (i - n) 0)
        ∙ ap (λ (l : List ℕ). get_or l (i - n) 0) behind
        ∙ get_or-drop n ys (i - n) 0
        ∙ ap (λ (j : ℕ). get_or ys j 0) place

-- the words of the rows have 64 bits
abbrev pub RowsAreWords : Call → Circuit → Type 0
RowsAreWords call c = (i : ℕ) → i < 4 * length (rows_of c) → get_or call.after.matrix i 0 < 2 ^ 64

-- a cell by its word and its bit
cell_of_word : (matrix : List ℕ) (r w v : ℕ) → v < 64 → cell_at matrix r (64 * w + v) ≡ bit (get_or matrix (4 * r + w) 0) v
unfolding cell_at
cell_of_word matrix r w v h =
    let high : (64 * w + v) / 64 ≡ w = omega arith in
    let low : (64 * w + v) % 64 ≡ v = omega arith in
    rw (high, low)

module _ (one other : Call) (c : Circuit) (cells : CellsTell one c) (cells' : CellsTell other c) where
  pub same_mark : (at : MatrixCell c) → mark_in one at ≡ mark_in other at
  unfolding cell_at
  same_mark at = go (ℕ_discrete (mark_in one at) 1)
    where
      few : mark_in one at < 2
      few = omega (arith, bit_le_one (get_or one.after.matrix (4 * at.row + at.vector / 64) 0) (at.vector % 64))

      go : Dec (mark_in one at ≡ 1) → mark_in one at ≡ mark_in other at
      go (yes e) = e ∙ sym ((cells'.marked at).1 ((cells.marked at).0 e))
      go (no e) =
          let none : mark_in one at ≡ 0 = omega (arith, few) in
          none ∙ sym ((cells'.not_marked at).1 ((cells.not_marked at).0 none))

  same_cell : (r v : ℕ) → r < length (rows_of c) → v < 256 → cell_at one.after.matrix r v ≡ cell_at other.after.matrix r v
  same_cell r v h k = go (dec_lt v (length c.vectors))
    where
      go : Dec (v < length c.vectors) → cell_at one.after.matrix r v ≡ cell_at other.after.matrix r v
      go (yes l) = same_mark (record { row = r; vector = v; is_row = h; is_vector = l })
      go (no l) = cells.past_the_last_vector r v h (omega arith) k ∙ sym (cells'.past_the_last_vector r v h (omega arith) k)

  pub same_word : RowsAreWords one c → RowsAreWords other c → (i : ℕ) → i < 4 * length (rows_of c)
      → get_or one.after.matrix i 0 ≡ get_or other.after.matrix i 0
  same_word words words' i h =
      bits_eq 64 (get_or one.after.matrix i 0) (get_or other.after.matrix i 0) (words i h) (words' i h) same_bit
    where
      told : (matrix : List ℕ) (v : ℕ) → v < 64 → cell_at matrix (i / 4) (64 * (i % 4) + v) ≡ bit (get_or matrix i 0) v
      told matrix v k =
          let place : 4 * (i / 4) + i % 4 ≡ i = omega arith in
          cell_of_word matrix (i / 4) (i % 4) v k ∙ ap (λ (j : ℕ). bit (get_or matrix j 0) v) place

      same_bit : (v : ℕ) → v < 64 → bit (get_or one.after.matrix i 0) v ≡ bit (get_or other.after.matrix i 0) v
      same_bit v k =
          sym (told one.after.matrix v k)
          ∙ same_cell (i / 4) (64 * (i % 4) + v) (omega arith) (omega arith)
          ∙ told other.after.matrix v k

-- a call that keeps the promise has such words
pub kept-words : (call : Call) (c : Circuit) → GradedAs call c → RowsAreWords call c
unfolding matrix_of over row_words mark_of
kept-words call c given i h =
    let place : 4 * (i / 4) + i % 4 ≡ i = omega arith in
    let row : Row = row_at c (i / 4) in
    let word-is : get_or call.after.matrix i 0 ≡ word (marks row) =
    ap (λ (j : ℕ). get_or call.after.matrix j 0) (sym place)
    ∙ ap (λ (matrix : List ℕ). get_or matrix (4 * (i / 4) + i % 4) 0) (gave call c given).matrix_is
    ∙ words_are c (rows_of c) (drop (length (matrix_of c)) call.before.matrix) (i / 4) (i % 4) no_row (omega arith) (omega arith)
    ∙ row_word (length c.vectors) (mark_of c row) (i % 4) (omega arith) in
    rw word-is (word_lt (marks row) (few row))
  where
    marks : Row → ℕ → ℕ
    marks row v = up_to (length c.vectors) (mark_of c row) (64 * (i % 4) + v)

    few : (row : Row) (v : ℕ) → marks row v ≤ 1
    few row v =
        up_to_le_one (length c.vectors) (mark_of c row) (λ u. of_bool_le_one (cell c (vector_of c u) row)) (64 * (i % 4) + v)
