-- Lists of words as the code fills them from the vectors: 64 vectors' words, word w of each input among the signals, the inputs' planes word by word.
-- Assumes nothing.
use mathlib.Core.Path.{◌≡◌, refl, sym, ap, ◌∙◌}
use mathlib.Core.Bool.{Bool, true, false, cond}
use mathlib.Core.List.{List, map}
use Prim.Native.Nat.{ℕ, suc, ◌+◌, ◌*◌, ◌/◌, ◌%◌, ◌≤◌, ◌<◌}
use native.Mathlib.Decide.{ℕ_discrete, dec_lt}
use native.Mathlib.Omega.{arith}
use borrow.Author.Tests.{lt-ltb, le-ltb, eq-eqb, ne_eqb}
use lib.Dec.{ltb, eqb}
use lib.ListN.{length, get_or, set, replicate, length-replicate, get_or-replicate, get_or-map}
use Rattle.words.specs.Bits.{bit, word}
use Rattle.words.specs.Tables.{table, up_to}
use Rattle.words.proofs.Laws.{pack_cong}
use Rattle.words.proofs.Tables.{get_or-table, is-table, table_cong, set-table, up-below, up-past}
use Rattle.circuit.specs.Records.{unused_vector}
use Rattle.circuit.specs.declared.Vector.{Vector as VectorRecord}
use Rattle.grade_inputs.specs.Inputs.{input_word, input_words, words_from, inputs_put}
use Rattle.grade_inputs.specs.Turning.{transposed}

-- ---- 64 vectors' words

pub column-is : (f : VectorRecord → ℕ) (vectors : List VectorRecord) (w : ℕ) → f unused_vector ≡ 0
    → table 64 (λ (v : ℕ). f (get_or vectors (64 * w + v) unused_vector)) ≡ words_from (map f vectors) w
unfolding words_from
column-is f vectors w none =
    table_cong 64 (λ (v : ℕ). f (get_or vectors (64 * w + v) unused_vector)) (λ (v : ℕ). get_or (map f vectors) (64 * w + v) 0) (λ v h.
    sym (ap (get_or (map f vectors) (64 * w + v)) (sym none) ∙ get_or-map f vectors (64 * w + v) unused_vector))

-- ---- word w of each input

module _ (block : List ℕ) (w : ℕ) (signals : List ℕ) where
  -- what stands at place j when the words of the first n inputs are put
  abbrev put : ℕ → ℕ → ℕ
  put n j = cond (eqb (j % 4) w) (cond (ltb (j / 4) n) (get_or block (j / 4) 0) (get_or signals j 0)) (get_or signals j 0)

  put_here : (n j : ℕ) → j % 4 ≡ w → j / 4 < n → put n j ≡ get_or block (j / 4) 0
  put_here n j e h = rw (eq-eqb (j % 4) w e, lt-ltb (j / 4) n h)

  put_later : (n j : ℕ) → n ≤ j / 4 → put n j ≡ get_or signals j 0
  put_later n j h = rw (le-ltb (j / 4) n h) (both (eqb (j % 4) w))
    where
      both : (b : Bool) → cond b (get_or signals j 0) (get_or signals j 0) ≡ get_or signals j 0
      both true = refl
      both false = refl

  put_beside : (n j : ℕ) → (j % 4 ≡ w → ⊥) → put n j ≡ get_or signals j 0
  put_beside n j e = rw (ne_eqb (j % 4) w e)

  pub put_none : length signals ≡ 768 → signals ≡ inputs_put 0 block w signals
  unfolding inputs_put
  put_none long = is-table 0 768 (put 0) signals long (λ j h. sym (put_later 0 j (omega arith)))

  pub put_more : (n : ℕ) → n < 64 → w < 4 → set (inputs_put n block w signals) (4 * n + w) (get_or block n 0) ≡ inputs_put (suc n) block w signals
  unfolding inputs_put
  put_more n h k =
      let word : (4 * n + w) % 4 ≡ w = omega arith in
      let input : (4 * n + w) / 4 ≡ n = omega arith in
      ap (set (table 768 (put n)) (4 * n + w)) (ap (λ (m : ℕ). get_or block m 0) (sym input) ∙ sym (put_here (suc n) (4 * n + w) word (omega arith)))
      ∙ set-table 0 768 (put n) (put (suc n)) (4 * n + w) (omega arith) (λ j room apart. same j apart (ℕ_discrete (j % 4) w) (dec_lt (j / 4) n))
    where
      same : (j : ℕ) → (j ≡ 4 * n + w → ⊥) → Dec (j % 4 ≡ w) → Dec (j / 4 < n) → put n j ≡ put (suc n) j
      same j apart (no e) q = put_beside n j e ∙ sym (put_beside (suc n) j e)
      same j apart (yes e) (yes q) = put_here n j e q ∙ sym (put_here (suc n) j e (omega arith))
      same j apart (yes e) (no q) = put_later n j (omega arith) ∙ sym (put_later (suc n) j (omega (arith, apart)))

-- ---- the inputs' planes

module _ (column : List ℕ) where
  -- what stands at place j when the first w words of each input are there
  abbrev planes : ℕ → ℕ → ℕ
  planes w = up_to 256 (λ (j : ℕ). up_to w (input_word column (j / 4)) (j % 4))

  plane_is : (w j : ℕ) → j < 256 → planes w j ≡ up_to w (input_word column (j / 4)) (j % 4)
  plane_is w j h = up-below 256 (λ (i : ℕ). up_to w (input_word column (i / 4)) (i % 4)) j h

  plane_past : (w j : ℕ) → 256 ≤ j → planes w j ≡ 0
  plane_past w j h = up-past 256 (λ (i : ℕ). up_to w (input_word column (i / 4)) (i % 4)) j h

  pub inputs_none : replicate 768 0 ≡ input_words column 0
  unfolding input_words
  inputs_none = is-table 0 768 (planes 0) (replicate 768 0) (length-replicate {A = ℕ} 768 0) (λ j h. get_or-replicate 768 j 0 0 h ∙ sym (at j (dec_lt j 256)))
    where
      at : (j : ℕ) → Dec (j < 256) → planes 0 j ≡ 0
      at j (yes h) = plane_is 0 j h ∙ up-past 0 (input_word column (j / 4)) (j % 4) (omega arith)
      at j (no h) = plane_past 0 j (omega arith)

  -- the words of the vectors from 64 w on, turned over, are word w of the inputs
  input_turned : (w i : ℕ) → i < 64 → get_or (transposed (words_from column w)) i 0 ≡ input_word column i w
  unfolding transposed words_from input_word word
  input_turned w i h =
      get_or-table 64 (λ (j : ℕ). word (λ (v : ℕ). bit (get_or (words_from column w) v 0) j)) 0 i h
      ∙ pack_cong 64 (λ (v : ℕ). bit (get_or (words_from column w) v 0) i) (λ (v : ℕ). bit (get_or column (64 * w + v) 0) i)
      (λ v k. ap (λ (x : ℕ). bit x i) (get_or-table 64 (λ (u : ℕ). get_or column (64 * w + u) 0) 0 v k))

  inputs_more : (w : ℕ) → w < 4 → inputs_put 64 (transposed (words_from column w)) w (input_words column w) ≡ input_words column (suc w)
  unfolding inputs_put input_words
  inputs_more w k = table_cong 768 (put block w before 64) (planes (suc w)) (λ j h. at j h (ℕ_discrete (j % 4) w) (dec_lt j 256))
    where
      block : List ℕ
      block = transposed (words_from column w)

      before : List ℕ
      before = table 768 (planes w)

      rest : (j : ℕ) → (j % 4 ≡ w → ⊥) → Dec (j % 4 < w) → up_to w (input_word column (j / 4)) (j % 4) ≡ up_to (suc w) (input_word column (j / 4)) (j % 4)
      rest j e (yes q) = up-below w (input_word column (j / 4)) (j % 4) q ∙ sym (up-below (suc w) (input_word column (j / 4)) (j % 4) (omega arith))
      rest j e (no q) = up-past w (input_word column (j / 4)) (j % 4) (omega arith) ∙ sym (up-past (suc w) (input_word column (j / 4)) (j % 4) (omega (arith, e)))

      at : (j : ℕ) → j < 768 → Dec (j % 4 ≡ w) → Dec (j < 256) → put block w before 64 j ≡ planes (suc w) j
      at j h (yes e) (yes q) =
          put_here block w before 64 j e (omega arith)
          ∙ input_turned w (j / 4) (omega arith)
          ∙ ap (input_word column (j / 4)) (sym e)
          ∙ sym (plane_is (suc w) j q ∙ up-below (suc w) (input_word column (j / 4)) (j % 4) (omega arith))
      at j h (no e) (yes q) =
          put_beside block w before 64 j e ∙ get_or-table 768 (planes w) 0 j h ∙ plane_is w j q ∙ rest j e (dec_lt (j % 4) w) ∙ sym (plane_is (suc w) j q)
      at j h e (no q) =
          put_later block w before 64 j (omega arith) ∙ get_or-table 768 (planes w) 0 j h ∙ plane_past w j (omega arith) ∙ sym (plane_past (suc w) j (omega arith))

  -- one word more, from what the calls of a turn leave
  pub inputs_turn : (w : ℕ) → w < 4 → {block turned before after : List ℕ} → block ≡ words_from column w → turned ≡ transposed block
      → before ≡ input_words column w → after ≡ inputs_put 64 turned w before → after ≡ input_words column (suc w)
  inputs_turn w k e₁ e₂ e₃ e₄ = rw (e₄, e₂, e₁, e₃) (inputs_more w k)
