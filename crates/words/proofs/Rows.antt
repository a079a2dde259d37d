-- Rows of four words. The row made of a function has the function's marks at the vectors and no others, so its number of marks and its first mark
-- are the function's over the vectors. And what one word of any row adds to the number of marks and to the first mark. Assumes nothing.
use mathlib.Core.Path.{◌≡◌, refl, sym, ap, ◌∙◌}
use mathlib.Core.Bool.{Bool, true, false, cond}
use mathlib.Core.List.{List, [], ◌∷◌}
use Prim.Native.Nat.{ℕ, zero, suc, ◌+◌, ◌-◌, ◌*◌, ◌/◌, ◌%◌, ◌^◌, ◌≤◌, ◌<◌}
use native.Mathlib.Omega.{arith}
use lib.Count.{ones, ones-le, count_trailing_zeros}
use lib.Dec.{ltb}
use lib.ListN.{get_or, length}
use Rattle.std.specs.Prelude.{sum_by}
use Rattle.words.specs.Bits.{bit, word, sum_to, first_to}
use Rattle.words.specs.Tables.{up_to}
use Rattle.words.specs.Rows.{mark_at, row_of, marks_of, first_mark_of}
use Rattle.words.specs.Statements.{RowMark, RowMarks, RowFirst}
use Rattle.words.proofs.Laws.{bit-zero, bit_word}
use Rattle.words.proofs.Tables.{up-below, up-past}
use Rattle.words.proofs.Counting.{sum-add, sum_cong, sum_past, ones-sum}
use Rattle.words.proofs.Counting.{first_mark_meets, first_cong, first_past, first-add-found, first-add-none, first_from, trailing_first}

cond_le_one : (b : Bool) (x : ℕ) → x ≤ 1 → cond b x 0 ≤ 1
cond_le_one true x h = h
cond_le_one false x h = omega arith

pub up_to_le_one : (vectors : ℕ) (f : ℕ → ℕ) → ((v : ℕ) → f v ≤ 1) → (v : ℕ) → up_to vectors f v ≤ 1
unfolding up_to
up_to_le_one vectors f d v = cond_le_one (ltb v vectors) (f v) (d v)

-- each word of a row
pub row_word : (vectors : ℕ) (f : ℕ → ℕ) (w : ℕ) → w < 4 → get_or (row_of vectors f) w 0 ≡ word (λ (v : ℕ). up_to vectors f (64 * w + v))
unfolding row_of
row_word vectors f zero h = refl
row_word vectors f (suc zero) h = refl
row_word vectors f (suc (suc zero)) h = refl
row_word vectors f (suc (suc (suc zero))) h = refl
row_word vectors f (suc (suc (suc (suc w)))) h = absurd (omega arith)

pub row-mark : RowMark
unfolding mark_at
row-mark vectors f d v h =
    let w : ℕ = v / 64 in
    let in_word : ℕ → ℕ = λ (u : ℕ). up_to vectors f (64 * w + u) in
    rw (row_word vectors f w (omega arith), bit_word in_word (λ u. up_to_le_one vectors f d (64 * w + u)) (v % 64) (omega arith))
    (ap (up_to vectors f) (omega arith))

-- ---- what the report says of such a row: its marks are those of the vectors, since it has none past the last

module _ (vectors : ℕ) (f : ℕ → ℕ) (d : (v : ℕ) → f v ≤ 1) (h : vectors ≤ 256) where
  whole : 256 ≡ vectors + (256 - vectors)
  whole = omega arith

  past : (v : ℕ) → v < 256 - vectors → up_to vectors f (vectors + v) ≡ 0
  past v l = up-past vectors f (vectors + v) (omega arith)

  marks_sum : marks_of (row_of vectors f) ≡ sum_to vectors f
  unfolding marks_of
  marks_sum =
      sum_cong 256 (mark_at (row_of vectors f)) (up_to vectors f) (row-mark vectors f d)
      ∙ ap (λ (n : ℕ). sum_to n (up_to vectors f)) whole
      ∙ sum_past vectors (256 - vectors) (up_to vectors f) past
      ∙ sum_cong vectors (up_to vectors f) f (up-below vectors f)

  mark_first : first_mark_of (row_of vectors f) ≡ first_to vectors f
  unfolding first_mark_of
  mark_first =
      first_cong 256 (mark_at (row_of vectors f)) (up_to vectors f) (row-mark vectors f d)
      ∙ ap (λ (n : ℕ). first_to n (up_to vectors f)) whole
      ∙ first_past vectors (256 - vectors) (up_to vectors f) past
      ∙ first_cong vectors (up_to vectors f) f (up-below vectors f)

pub row-marks : RowMarks
row-marks = marks_sum

pub row_first : RowFirst
row_first = mark_first

-- ---- a row of words, a word at a time

-- the marks at a word's positions are its bits
pub word-marks : (row : List ℕ) (w v : ℕ) → v < 64 → mark_at row (64 * w + v) ≡ bit (get_or row w 0) v
unfolding mark_at
word-marks row w v h =
    let high : (64 * w + v) / 64 ≡ w = omega arith in
    let low : (64 * w + v) % 64 ≡ v = omega arith in
    rw (high, low)

-- the marks up to a word, and those of the word
pub marks-more : (row : List ℕ) (w : ℕ) → get_or row w 0 < 2 ^ 64
    → sum_to (64 * w + 64) (mark_at row) ≡ sum_to (64 * w) (mark_at row) + ones (get_or row w 0)
marks-more row w h =
    sum-add (64 * w) 64 (mark_at row)
    ∙ ap (λ (n : ℕ). sum_to (64 * w) (mark_at row) + n)
    (sum_cong 64 (λ (v : ℕ). mark_at row (64 * w + v)) (bit (get_or row w 0)) (word-marks row w) ∙ sym (ones-sum 64 (get_or row w 0) h))

-- so the ones of all words are the marks of the row
pub ones-marks : (row : List ℕ) → length row ≡ 4 → ((w : ℕ) → get_or row w 0 < 2 ^ 64) → (sum_by ones row ≡ marks_of row) × (sum_by ones row ≤ 256)
unfolding marks_of sum_to
ones-marks (a ∷ b ∷ c ∷ d ∷ []) size fit = (sym up_to_4, few)
  where
    row : List ℕ
    row = a ∷ b ∷ c ∷ d ∷ []

    up_to_1 : sum_to 64 (mark_at row) ≡ 0 + ones a
    up_to_1 = marks-more row 0 (fit 0)

    up_to_2 : sum_to 128 (mark_at row) ≡ 0 + ones a + ones b
    up_to_2 = marks-more row 1 (fit 1) ∙ ap (λ (n : ℕ). n + ones b) up_to_1

    up_to_3 : sum_to 192 (mark_at row) ≡ 0 + ones a + ones b + ones c
    up_to_3 = marks-more row 2 (fit 2) ∙ ap (λ (n : ℕ). n + ones c) up_to_2

    up_to_4 : sum_to 256 (mark_at row) ≡ 0 + ones a + ones b + ones c + ones d
    up_to_4 = marks-more row 3 (fit 3) ∙ ap (λ (n : ℕ). n + ones d) up_to_3

    few : 0 + ones a + ones b + ones c + ones d ≤ 256
    few = omega (arith, ones-le 64 a (fit 0), ones-le 64 b (fit 1), ones-le 64 c (fit 2), ones-le 64 d (fit 3))
ones-marks [] size fit = absurd (omega arith)
ones-marks (a ∷ []) size fit = absurd (omega arith)
ones-marks (a ∷ b ∷ []) size fit = absurd (omega arith)
ones-marks (a ∷ b ∷ c ∷ []) size fit = absurd (omega arith)
ones-marks (a ∷ b ∷ c ∷ d ∷ e ∷ more) size fit = absurd (omega arith)

-- where no word before w has a mark: the first mark within w is that of its bits
word_first : (row : List ℕ) (w : ℕ) → first_to (64 * w) (mark_at row) ≡ 0
    → first_to (64 * w + 64) (mark_at row) ≡ first_from (64 * w) (first_to 64 (bit (get_or row w 0)))
word_first row w none =
    first-add-none (64 * w) 64 (mark_at row) none
    ∙ ap (first_from (64 * w)) (first_cong 64 (λ (v : ℕ). mark_at row (64 * w + v)) (bit (get_or row w 0)) (word-marks row w))

-- a word that is 0 has none
pub first_more : (row : List ℕ) (w : ℕ) → first_to (64 * w) (mark_at row) ≡ 0 → get_or row w 0 ≡ 0 → first_to (64 * w + 64) (mark_at row) ≡ 0
first_more row w none e = word_first row w none ∙ rw (e, (first_mark_meets 64 (bit 0)).none.1 (λ v l. bit-zero v))

-- so words that are 0 have none
pub first-none : (row : List ℕ) (w : ℕ) → ((u : ℕ) → u < w → get_or row u 0 ≡ 0) → first_to (64 * w) (mark_at row) ≡ 0
unfolding first_to
first-none row zero e = refl
first-none row (suc w) e =
    let next : 64 * suc w ≡ 64 * w + 64 = omega arith in
    rw next (first_more row w (first-none row w (λ u l. e u (omega arith))) (e w (omega arith)))

-- any other has its lowest set bit
pub first_found : (row : List ℕ) (w : ℕ) → w < 4 → first_to (64 * w) (mark_at row) ≡ 0 → get_or row w 0 < 2 ^ 64 → (get_or row w 0 ≡ 0 → ⊥)
    → first_mark_of row ≡ suc (64 * w + count_trailing_zeros 64 (get_or row w 0))
unfolding first_mark_of
first_found row w l none h nz =
    let here : first_to (64 * w + 64) (mark_at row) ≡ suc (64 * w + count_trailing_zeros 64 (get_or row w 0)) =
    word_first row w none ∙ ap (first_from (64 * w)) (sym (trailing_first 64 (get_or row w 0) h nz)) in
    let whole : 256 ≡ (64 * w + 64) + (192 - 64 * w) = omega arith in
    ap (λ (n : ℕ). first_to n (mark_at row)) whole
    ∙ first-add-found (64 * w + 64) (192 - 64 * w) (mark_at row) (64 * w + count_trailing_zeros 64 (get_or row w 0)) here
