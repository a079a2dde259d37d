-- Whether a row of marks has one: it has none exactly when the or of its four words is 0. Assumes nothing.
use mathlib.Core.Path.{◌≡◌, refl, sym, ap, ◌∙◌}
use mathlib.Core.Bool.{Bool, true, false, not}
use mathlib.Core.List.{List}
use Prim.Native.Nat.{ℕ, ◌+◌, ◌*◌, ◌^◌, ◌≤◌, ◌<◌}
use native.Mathlib.Omega.{arith}
use borrow.Author.Tests.{eq-eqb, ne_eqb, ltb-true, ltb-false}
use lib.Arith.{bin_ind}
use lib.Bits.{bit_or}
use lib.Count.{ones, ones_step}
use lib.Dec.{eqb, ltb}
use lib.ListN.{get_or}
use Rattle.words.specs.Bits.{sum_to}
use Rattle.words.specs.Tables.{up_to}
use Rattle.words.specs.Rows.{mark_at, row_of, marks_of}
use Rattle.words.proofs.Laws.{or_none, none_or, word_lt}
use Rattle.words.proofs.Rows.{up_to_le_one, row_word, row-marks, marks-more}

ones_none : (w : ℕ) → ones w ≡ 0 → w ≡ 0
ones_none = bin_ind (λ (w : ℕ). ones w ≡ 0 → w ≡ 0) (λ e. refl) (λ n half e. omega (arith, ones_step n, half (omega (arith, ones_step n))))

none-ones : (w : ℕ) → w ≡ 0 → ones w ≡ 0
unfolding ones
none-ones w e = ap ones e

sum-zero : (f : ℕ → ℕ) → sum_to 0 f ≡ 0
unfolding sum_to
sum-zero f = refl

-- the marks of a row whose words fit
four_words : (row : List ℕ) → ((w : ℕ) → w < 4 → get_or row w 0 < 2 ^ 64)
    → marks_of row ≡ ones (get_or row 0 0) + ones (get_or row 1 0) + ones (get_or row 2 0) + ones (get_or row 3 0)
unfolding marks_of
four_words row fits =
    omega (
      arith,
      sum-zero (mark_at row),
      marks-more row 0 (fits 0 (omega arith)),
      marks-more row 1 (fits 1 (omega arith)),
      marks-more row 2 (fits 2 (omega arith)),
      marks-more row 3 (fits 3 (omega arith)),
    )

word_fits : (vectors : ℕ) (f : ℕ → ℕ) → ((v : ℕ) → f v ≤ 1) → (w : ℕ) → w < 4 → get_or (row_of vectors f) w 0 < 2 ^ 64
word_fits vectors f d w h =
    rw (row_word vectors f w h) (word_lt (λ (v : ℕ). up_to vectors f (64 * w + v)) (λ v. up_to_le_one vectors f d (64 * w + v)))

module _ (a b c d : ℕ) where
  abbrev all : ℕ
  all = bit_or (bit_or (bit_or a b) c) d

  abbrev marks : ℕ
  marks = ones a + ones b + ones c + ones d

  or_counts : eqb all 0 ≡ not (ltb 0 marks)
  or_counts = go (ltb 0 marks) refl
    where
      none_counted : all ≡ 0 → marks ≡ 0
      none_counted e =
          let last = none_or (bit_or (bit_or a b) c) d e in
          let third = none_or (bit_or a b) c last.0 in
          let two = none_or a b third.0 in
          omega (arith, none-ones a two.0, none-ones b two.1, none-ones c third.1, none-ones d last.1)

      go : (x : Bool) → ltb 0 marks ≡ x → eqb all 0 ≡ not x
      go true s = ne_eqb all 0 (λ e. omega (arith, ltb-true 0 marks s, none_counted e))
      go false s =
          let few : marks ≤ 0 = ltb-false 0 marks s in
          eq-eqb all 0
          (or_none (bit_or (bit_or a b) c) d
          (or_none (bit_or a b) c (or_none a b (ones_none a (omega arith)) (ones_none b (omega arith))) (ones_none c (omega arith)))
          (ones_none d (omega arith)))

pub any_mark : (vectors : ℕ) (f : ℕ → ℕ) → ((v : ℕ) → f v ≤ 1) → vectors ≤ 256
    → let row : List ℕ = row_of vectors f in
    eqb (bit_or (bit_or (bit_or (get_or row 0 0) (get_or row 1 0)) (get_or row 2 0)) (get_or row 3 0)) 0 ≡ not (ltb 0 (sum_to vectors f))
any_mark vectors f d few =
    let row : List ℕ = row_of vectors f in
    or_counts (get_or row 0 0) (get_or row 1 0) (get_or row 2 0) (get_or row 3 0)
    ∙ ap (λ (n : ℕ). not (ltb 0 n)) (sym (four_words row (word_fits vectors f d)) ∙ row-marks vectors f d few)
