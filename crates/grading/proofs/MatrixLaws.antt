-- The matrix as a list: four words a row, row after row. Assumes nothing.
use Prim.Native.Nat.{ℕ, suc, ◌+◌, ◌-◌, ◌*◌, ◌/◌, ◌%◌, ◌<◌}
use mathlib.Core.Path.{◌≡◌, refl, ap, ◌∙◌}
use mathlib.Core.List.{List, [], ◌∷◌, ◌++◌, map, map-append}
use native.Mathlib.Decide.{dec_lt}
use native.Mathlib.Omega.{arith}
use lib.ListN.{length, get_or, length-append, get_or-append}
use lib.Seq.{get_or-append-add}
use Rattle.words.specs.Rows as marks
use Rattle.words.specs.Tables.{table}
use Rattle.words.proofs.Tables.{is-table}
use Rattle.circuit.specs.Circuit.{Circuit, join_lists}
use Rattle.grading.specs.Rows.{Row, row_words}
use Rattle.grading.proofs.Lists.{join_append}

-- ---- four words for each row, whatever they are

module _ (packed : Row → List ℕ) (row_long : (r : Row) → length (packed r) ≡ 4) where
  length_rows : (rows : List Row) → length (join_lists (map packed rows)) ≡ 4 * length rows
  unfolding join_lists
  length_rows [] = refl
  length_rows (r ∷ rs) = omega (arith, row_long r, length-append (packed r) (join_lists (map packed rs)), length_rows rs)

  module _ (none : Row) where
    -- each word is its row's
    word_of_row : (rows : List Row) (j : ℕ) → j < 4 * length rows → get_or (join_lists (map packed rows)) j 0 ≡ get_or (packed (get_or rows (j / 4) none)) (j % 4) 0
    unfolding join_lists
    word_of_row [] j h = absurd (omega arith)
    word_of_row (r ∷ rows) j h = go (dec_lt j 4) (word_of_row rows)
      where
        rest : List ℕ
        rest = join_lists (map packed rows)

        go : Dec (j < 4) → ((n : ℕ) → n < 4 * length rows → get_or rest n 0 ≡ get_or (packed (get_or rows (n / 4) none)) (n % 4) 0)
            → get_or (packed r ++ rest) j 0 ≡ get_or (packed (get_or (r ∷ rows) (j / 4) none)) (j % 4) 0
        go (yes q) below =
            let high : j / 4 ≡ 0 = omega arith in
            let low : j % 4 ≡ j = omega arith in
            rw (high, low) (get_or-append (packed r) rest 0 j (omega (arith, row_long r)))
        go (no q) below =
            let later : ℕ = j - 4 in
            let high : j / 4 ≡ suc (later / 4) = omega arith in
            let low : j % 4 ≡ later % 4 = omega arith in
            rw (high, low)
            (ap (λ (n : ℕ). get_or (packed r ++ rest) n 0) (omega (arith, row_long r))
            ∙ get_or-append-add (packed r) rest later 0
            ∙ below later (omega arith))

    -- in a buffer that begins with them
    pub word_in : (rows : List Row) (more : List ℕ) (r w : ℕ) → r < length rows → w < 4
        → get_or (join_lists (map packed rows) ++ more) (4 * r + w) 0 ≡ get_or (packed (get_or rows r none)) w 0
    word_in rows more r w h k =
        let high : (4 * r + w) / 4 ≡ r = omega arith in
        let low : (4 * r + w) % 4 ≡ w = omega arith in
        get_or-append (join_lists (map packed rows)) more 0 (4 * r + w) (omega (arith, length_rows rows))
        ∙ word_of_row rows (4 * r + w) (omega arith)
        ∙ rw (high, low)

-- ---- the words of a circuit's rows

module _ (c : Circuit) where
  pub row_long : (r : Row) → length (row_words c r) ≡ 4
  unfolding row_words marks.row_of
  row_long r = refl

  pub length_matrix : (rows : List Row) → length (join_lists (map (row_words c) rows)) ≡ 4 * length rows
  length_matrix = length_rows (row_words c) row_long

  pub matrix_append : (a b : List Row)
      → join_lists (map (row_words c) (a ++ b)) ≡ join_lists (map (row_words c) a) ++ join_lists (map (row_words c) b)
  matrix_append a b = rw (map-append (row_words c) a b) (join_append (map (row_words c) a) (map (row_words c) b))

  pub matrix_table : (none : Row) (rows : List Row)
      → join_lists (map (row_words c) rows) ≡ table (4 * length rows) (λ (j : ℕ). get_or (row_words c (get_or rows (j / 4) none)) (j % 4) 0)
  matrix_table none rows =
      is-table 0 (4 * length rows) _ (join_lists (map (row_words c) rows)) (length_matrix rows) (word_of_row (row_words c) row_long none rows)
