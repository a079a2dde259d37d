-- Things that have some words each: where their words stand, what stands there, and lists told by each word. Assumes nothing.
use mathlib.Core.Path.{◌≡◌, sym, ap, ◌∙◌}
use mathlib.Core.List.{List}
use Prim.Native.Nat.{ℕ, zero, suc, ◌+◌, ◌*◌, ◌/◌, ◌%◌, ◌<◌, ◌≤◌}
use native.Mathlib.Nat.{mul-suc, mul-le-mul_left, div-add-mod, mod-lt, lt_of_not-le}
use native.Mathlib.Decide.{dec_lt}
use native.Mathlib.Omega.{arith}
use lib.ListN.{length, get_or, set}
use lib.Seq.{ext_get_or}
use Rattle.words.specs.Each.{word_of_each, four_each}
use Rattle.words.specs.Written.{written}
use Rattle.words.proofs.Tables.{get_or-table, is-table, set-table}
use Rattle.words.proofs.WrittenLaws.{written_before, written_here, written_after}

-- the words of a thing stand before those of a later one
pub each-before : (width m n : ℕ) → m < n → width * m + width ≤ width * n
each-before width m n h = omega (arith, mul-suc width m, mul-le-mul_left width h)

-- word w of thing m stands within the words of n things
pub each_in : (width w n m : ℕ) → m < n → w < width → width * m + w < width * n
each_in width w n m h k = omega (arith, each-before width m n h)

pub each_at : (width w n : ℕ) (words : List ℕ) (m : ℕ) → m < n → get_or (word_of_each width w n words) m 0 ≡ get_or words (width * m + w) 0
unfolding word_of_each
each_at width w n words m h = get_or-table n (λ (i : ℕ). get_or words (width * i + w) 0) 0 m h

-- things that have one word each
pub one_each : (n : ℕ) (words : List ℕ) → length words ≡ n → word_of_each 1 0 n words ≡ words
unfolding word_of_each
one_each n words long =
    sym (is-table 0 n (λ (m : ℕ). get_or words (1 * m + 0) 0) words long (λ m h. let place : m ≡ 1 * m + 0 = omega arith in ap (λ (i : ℕ). get_or words i 0) place))

-- where all words of one thing are written, word w of each is set at that thing alone
pub each-written : (width w n i : ℕ) (words text : List ℕ) → length words ≡ width * n → length text ≡ width → w < width → i < n
    → word_of_each width w n (written words (width * i) text) ≡ set (word_of_each width w n words) i (get_or text w 0)
unfolding word_of_each
each-written width w n i words text long whole k h =
    let after : List ℕ = written words (width * i) text in
    let fits : width * i + length text ≤ length words = omega (arith, each-before width i n h) in
    sym
    (ap (set (word_of_each width w n words) i) (sym (written_here words (width * i) text fits w (omega arith)))
    ∙ set-table 0 n (λ (m : ℕ). get_or words (width * m + w) 0) (λ (m : ℕ). get_or after (width * m + w) 0) i h (λ j l apart. same fits j apart (dec_lt j i)))
  where
    same : width * i + length text ≤ length words → (j : ℕ) → (j ≡ i → ⊥) → Dec (j < i)
        → get_or words (width * j + w) 0 ≡ get_or (written words (width * i) text) (width * j + w) 0
    same fits j apart (yes l) = sym (written_before words (width * i) text fits (width * j + w) (each_in width w i j l k))
    same fits j apart (no l) =
        let past : i < j = omega arith in
        sym (written_after words (width * i) text fits (width * j + w) (omega (arith, each-before width i j past)))

module _ (n : ℕ) (f : ℕ → List ℕ) where
  pub four_at : (m w : ℕ) → m < n → w < 4 → get_or (four_each n f) (4 * m + w) 0 ≡ get_or (f w) m 0
  unfolding four_each
  four_at m w h k =
      let word : (4 * m + w) % 4 ≡ w = omega arith in
      let thing : (4 * m + w) / 4 ≡ m = omega arith in
      get_or-table (4 * n) (λ (j : ℕ). get_or (f (j % 4)) (j / 4) 0) 0 (4 * m + w) (omega arith) ∙ rw (word, thing)

  -- a list is four words each if each word is there
  pub is_four : (words : List ℕ) → length words ≡ 4 * n → ((m w : ℕ) → m < n → w < 4 → get_or words (4 * m + w) 0 ≡ get_or (f w) m 0) → words ≡ four_each n f
  unfolding four_each
  is_four words long each =
      is-table 0 (4 * n) (λ (j : ℕ). get_or (f (j % 4)) (j / 4) 0) words long (λ j h.
      let place : j ≡ 4 * (j / 4) + j % 4 = omega arith in
      ap (λ (i : ℕ). get_or words i 0) place ∙ each (j / 4) (j % 4) (omega arith) (omega arith))

  -- and word w of each is the list that it was made from
  pub word_of_four : (w : ℕ) → w < 4 → length (f w) ≡ n → word_of_each 4 w n (four_each n f) ≡ f w
  unfolding word_of_each
  word_of_four w k long =
      sym (is-table 0 n (λ (m : ℕ). get_or (four_each n f) (4 * m + w) 0) (f w) long (λ m h. sym (four_at m w h k)))

-- things among whose words there is a place have some
some_words : (width n i : ℕ) → i < width * n → 0 < width
some_words zero n i h = absurd (omega arith)
some_words (suc width) n i h = omega arith

-- the words of things are told by each word of them
pub same-words : (width n : ℕ) (l more : List ℕ) → length l ≡ width * n → length more ≡ width * n
    → ((w : ℕ) → w < width → word_of_each width w n l ≡ word_of_each width w n more) → l ≡ more
same-words width n l more long also each =
    ext_get_or 0 l more (long ∙ sym also) (λ i h.
    let inside : i < width * n = omega arith in
    let w : ℕ = i % width in
    let m : ℕ = i / width in
    let place : width * m + w ≡ i = div-add-mod i width in
    let thing : m < n = lt_of_not-le (λ (past : n ≤ m). omega (arith, mul-le-mul_left width past)) in
    ap (λ (j : ℕ). get_or l j 0) (sym place)
    ∙ sym (each_at width w n l m thing)
    ∙ ap (λ (words : List ℕ). get_or words m 0) (each w (mod-lt i (some_words width n i inside)))
    ∙ each_at width w n more m thing
    ∙ ap (λ (j : ℕ). get_or more j 0) place)
