-- A square of bits turned over in six steps. A step's two words are those of `stepped`, bit by bit; a step's turns fill its table; and the steps of values
-- 32 to m leave each bit where word and position have exchanged their bits of value m and more, so that the last leaves it turned over.
-- What is said of places is said of each of the six values alone, by `six`. Assumes nothing.
use mathlib.Core.Path.{◌≡◌, refl, sym, ap, ◌∙◌}
use mathlib.Core.Bool.{cond}
use mathlib.Core.List.{List}
use Prim.Native.Nat.{ℕ, zero, suc, ◌+◌, ◌-◌, ◌*◌, ◌/◌, ◌%◌, ◌^◌, ◌≤◌, ◌<◌, zero-le, suc-le-suc, min}
use native.Mathlib.Nat.{mul_comm, add-zero, add_comm, mod-lt, lt_of_le_of_lt, le_of_eq, le-suc, le_trans, le_of_suc-le}
use native.Mathlib.Decide.{ℕ_discrete, dec_lt}
use native.Mathlib.Omega.{arith}
use borrow.Author.Tests.{lt-ltb, le-ltb}
use lib.Bits.{bit_and, bit_or, and_high, and_le_r, or_lt}
use lib.Dec.{ltb}
use lib.ListN.{length, get_or, set, length-set}
use lib.Pow.{pow_pos, shr-shr, split}
use lib.Seq.{get_or-set_same, get_or-set_other}
use Rattle.words.specs.Bits.{bit, pack, word}
use Rattle.words.specs.Tables.{table}
use Rattle.words.proofs.Laws.{bit_le_one, bit-zero, bit_or_lem, bit_and_lem, bit_not_under, bit-block, bit-block-high, pack_cong, word_of_bits, bit_word, word_lt}
use Rattle.words.proofs.Tables.{length-table, get_or-table, is-table, table_cong}
use Rattle.grade_inputs.specs.Turning.{transposed, with_bit_of, stepped, Step}

-- ---- the six values

six : (P : ℕ → Type 0) → P 1 → P 2 → P 4 → P 8 → P 16 → P 32 → (n : ℕ) → n < 6 → P (2 ^ n)
six P a b c d e f zero h = a
six P a b c d e f (suc zero) h = b
six P a b c d e f (suc (suc zero)) h = c
six P a b c d e f (suc (suc (suc zero))) h = d
six P a b c d e f (suc (suc (suc (suc zero)))) h = e
six P a b c d e f (suc (suc (suc (suc (suc zero))))) h = f
six P a b c d e f (suc (suc (suc (suc (suc (suc n)))))) h = absurd (omega arith)

-- ---- bits

-- a remainder by 2 that is not 0
odd : (q : ℕ) → (q % 2 ≡ 0 → ⊥) → q % 2 ≡ 1
odd q z = omega (arith, z)

-- the bits of a word, of a number moved up and of one moved down
bit_mod : (x v : ℕ) → v < 64 → bit (x % 2 ^ 64) v ≡ bit x v
bit_mod x v h =
    sym (bit-block 64 (x / 2 ^ 64) (x % 2 ^ 64) v (mod-lt x (pow_pos 64)) h)
    ∙ ap (λ (y : ℕ). bit y v) (ap (λ (y : ℕ). y + x % 2 ^ 64) (mul_comm (2 ^ 64) (x / 2 ^ 64)) ∙ split x 64)

bit_below : (x n v : ℕ) → v < n → bit (x * 2 ^ n) v ≡ 0
bit_below x n v h =
    ap (λ (y : ℕ). bit y v) (mul_comm x (2 ^ n) ∙ sym (add-zero (2 ^ n * x))) ∙ bit-block n x 0 v (pow_pos n) h ∙ bit-zero v

bit_above : (x n v : ℕ) → bit (x * 2 ^ n) (n + v) ≡ bit x v
bit_above x n v =
    ap (λ (y : ℕ). bit y (n + v)) (mul_comm x (2 ^ n) ∙ sym (add-zero (2 ^ n * x))) ∙ bit-block-high n x 0 v (pow_pos n)

bit-right : (x n v : ℕ) → bit (x / 2 ^ n) v ≡ bit x (v + n)
unfolding bit
bit-right x n v = ap (λ (y : ℕ). y % 2) (shr-shr x n v ∙ ap (λ (m : ℕ). x / 2 ^ m) (add_comm n v))

-- a turn that is not among the first i, and is not turn i
next : (t i : ℕ) → (t < i → ⊥) → (t ≡ i → ⊥) → suc i ≤ t
next t i q apart = omega (arith, q, apart)

-- ---- turns of a step

-- the words of turn i are at `pair_of by i` and `by` later, and word r is one of those of turn `turn_of by r`
abbrev pair_of : ℕ → ℕ → ℕ
pair_of by i = i + i / by * by

abbrev turn_of : ℕ → ℕ → ℕ
turn_of by r = r / (2 * by) * by + r % by

-- word r after i turns
abbrev turned : ℕ → List ℕ → ℕ → ℕ → ℕ
turned by block i r = cond (ltb (turn_of by r) i) (word (λ (v : ℕ). bit (get_or block (with_bit_of by r v) 0) (with_bit_of by v r))) (get_or block r 0)

abbrev pub turns_to : ℕ → List ℕ → ℕ → List ℕ
turns_to by block i = table 64 (turned by block i)

-- ---- the steps of values 32 to m

-- a with what is below m taken from b
abbrev mixed : ℕ → ℕ → ℕ → ℕ
mixed m a b = a / m * m + b % m

abbrev spread : ℕ → List ℕ → ℕ → ℕ → ℕ
spread m block r v = bit (get_or block (mixed m v r) 0) (mixed m r v)

abbrev stepped_to : ℕ → List ℕ → List ℕ
stepped_to m block = table 64 (λ (r : ℕ). word (spread m block r))

module _ (by low : ℕ) (s : Step by low) where
  each : (P : ℕ → Type 0) → P 1 → P 2 → P 4 → P 8 → P 16 → P 32 → P by
  each P a b c d e f = rw s.value (six P a b c d e f s.place s.few)

  pub value_high : by ≤ 32
  value_high =
      each (λ (m : ℕ). m ≤ 32)
      (omega arith) (omega arith) (omega arith) (omega arith) (omega arith) (omega arith)

  -- positions that have the bit of the value, and those that do not
  half_down : (v : ℕ) → v / by % 2 ≡ 1 → (by ≤ v) × ((v - by) / by % 2 ≡ 0)
  half_down =
      each (λ (m : ℕ). (v : ℕ) → v / m % 2 ≡ 1 → (m ≤ v) × ((v - m) / m % 2 ≡ 0))
      (λ v h. (omega arith, omega arith)) (λ v h. (omega arith, omega arith)) (λ v h. (omega arith, omega arith)) (λ v h. (omega arith, omega arith)) (λ v h. (omega arith, omega arith)) (λ v h. (omega arith, omega arith))

  half_down_back : (v : ℕ) → v / by % 2 ≡ 0 → by ≤ v → (v - by) / by % 2 ≡ 1
  half_down_back =
      each (λ (m : ℕ). (v : ℕ) → v / m % 2 ≡ 0 → m ≤ v → (v - m) / m % 2 ≡ 1)
      (λ v h k. omega arith) (λ v h k. omega arith) (λ v h k. omega arith) (λ v h k. omega arith) (λ v h k. omega arith) (λ v h k. omega arith)

  half_up : (v : ℕ) → v / by % 2 ≡ 0 → (v + by) / by % 2 ≡ 1
  half_up =
      each (λ (m : ℕ). (v : ℕ) → v / m % 2 ≡ 0 → (v + m) / m % 2 ≡ 1)
      (λ v h. omega arith) (λ v h. omega arith) (λ v h. omega arith) (λ v h. omega arith) (λ v h. omega arith) (λ v h. omega arith)

  -- what is taken
  taken_same : (r v : ℕ) → r / by % 2 ≡ v / by % 2 → with_bit_of by r v ≡ r
  unfolding with_bit_of
  taken_same =
      each (λ (m : ℕ). (r v : ℕ) → r / m % 2 ≡ v / m % 2 → with_bit_of m r v ≡ r)
      (λ r v h. omega arith) (λ r v h. omega arith) (λ r v h. omega arith) (λ r v h. omega arith) (λ r v h. omega arith) (λ r v h. omega arith)

  taken_up : (r v : ℕ) → r / by % 2 ≡ 0 → v / by % 2 ≡ 1 → with_bit_of by r v ≡ r + by
  unfolding with_bit_of
  taken_up =
      each (λ (m : ℕ). (r v : ℕ) → r / m % 2 ≡ 0 → v / m % 2 ≡ 1 → with_bit_of m r v ≡ r + m)
      (λ r v h k. omega arith) (λ r v h k. omega arith) (λ r v h k. omega arith) (λ r v h k. omega arith) (λ r v h k. omega arith) (λ r v h k. omega arith)

  taken_down : (r v : ℕ) → r / by % 2 ≡ 1 → v / by % 2 ≡ 0 → with_bit_of by r v ≡ r - by
  unfolding with_bit_of
  taken_down =
      each (λ (m : ℕ). (r v : ℕ) → r / m % 2 ≡ 1 → v / m % 2 ≡ 0 → with_bit_of m r v ≡ r - m)
      (λ r v h k. omega arith) (λ r v h k. omega arith) (λ r v h k. omega arith) (λ r v h k. omega arith) (λ r v h k. omega arith) (λ r v h k. omega arith)

  taken_in : (r v : ℕ) → r < 64 → v < 64 → with_bit_of by r v < 64
  unfolding with_bit_of
  taken_in =
      each (λ (m : ℕ). (r v : ℕ) → r < 64 → v < 64 → with_bit_of m r v < 64)
      (λ r v h k. omega arith) (λ r v h k. omega arith) (λ r v h k. omega arith) (λ r v h k. omega arith) (λ r v h k. omega arith) (λ r v h k. omega arith)

  -- pairs and turns
  pair_is : (i : ℕ) → i < 32 → i + bit_and i (64 - by) ≡ pair_of by i
  pair_is =
      each
      (λ (m : ℕ). (i : ℕ) → i < 32 → i + bit_and i (64 - m) ≡ pair_of m i)
      (λ i h. omega (arith, and_high i 6 0))
      (λ i h. omega (arith, and_high i 5 1))
      (λ i h. omega (arith, and_high i 4 2))
      (λ i h. omega (arith, and_high i 3 3))
      (λ i h. omega (arith, and_high i 2 4))
      (λ i h. omega (arith, and_high i 1 5))

  pair_in : (i : ℕ) → i < 32 → pair_of by i + by < 64
  pair_in =
      each (λ (m : ℕ). (i : ℕ) → i < 32 → pair_of m i + m < 64)
      (λ i h. omega arith) (λ i h. omega arith) (λ i h. omega arith) (λ i h. omega arith) (λ i h. omega arith) (λ i h. omega arith)

  pub pair_room : (i : ℕ) → i < 32 → i + bit_and i (64 - by) + by < 64
  pair_room i h = rw (pair_is i h) (pair_in i h)

  pair_half : (i : ℕ) → pair_of by i / by % 2 ≡ 0
  pair_half =
      each (λ (m : ℕ). (i : ℕ) → pair_of m i / m % 2 ≡ 0)
      (λ i. omega arith) (λ i. omega arith) (λ i. omega arith) (λ i. omega arith) (λ i. omega arith) (λ i. omega arith)

  turn_first : (i : ℕ) → turn_of by (pair_of by i) ≡ i
  turn_first =
      each (λ (m : ℕ). (i : ℕ) → turn_of m (pair_of m i) ≡ i)
      (λ i. omega arith) (λ i. omega arith) (λ i. omega arith) (λ i. omega arith) (λ i. omega arith) (λ i. omega arith)

  turn_second : (i : ℕ) → turn_of by (pair_of by i + by) ≡ i
  turn_second =
      each (λ (m : ℕ). (i : ℕ) → turn_of m (pair_of m i + m) ≡ i)
      (λ i. omega arith) (λ i. omega arith) (λ i. omega arith) (λ i. omega arith) (λ i. omega arith) (λ i. omega arith)

  turn_other : (r : ℕ) → (r ≡ pair_of by (turn_of by r) → ⊥) → (r ≡ pair_of by (turn_of by r) + by → ⊥) → ⊥
  turn_other =
      each (λ (m : ℕ). (r : ℕ) → (r ≡ pair_of m (turn_of m r) → ⊥) → (r ≡ pair_of m (turn_of m r) + m → ⊥) → ⊥)
      (λ r a b. omega (arith, a, b)) (λ r a b. omega (arith, a, b)) (λ r a b. omega (arith, a, b)) (λ r a b. omega (arith, a, b)) (λ r a b. omega (arith, a, b)) (λ r a b. omega (arith, a, b))

  turn_in : (r : ℕ) → r < 64 → turn_of by r < 32
  turn_in =
      each (λ (m : ℕ). (r : ℕ) → r < 64 → turn_of m r < 32)
      (λ r h. omega arith) (λ r h. omega arith) (λ r h. omega arith) (λ r h. omega arith) (λ r h. omega arith) (λ r h. omega arith)

  -- ---- bits

  mask_bit : (v : ℕ) → v < 64 → bit low v ≡ 1 - v / by % 2
  mask_bit v h = ap (λ (x : ℕ). bit x v) s.mask ∙ bit_word (λ (u : ℕ). 1 - u / by % 2) (λ u. omega arith) v h

  mask_lt : low < 2 ^ 64
  mask_lt = rw s.mask (word_lt (λ (u : ℕ). 1 - u / by % 2) (λ u. omega arith))

  -- the part of a word that the mask names, moved up
  moved_bit : (x v : ℕ) → v < 64 → by ≤ v → bit (bit_and x low * 2 ^ by % 2 ^ 64) v ≡ min (bit x (v - by)) (1 - (v - by) / by % 2)
  moved_bit x v h k =
      let place : by + (v - by) ≡ v = omega arith in
      bit_mod (bit_and x low * 2 ^ by) v h
      ∙ ap (bit (bit_and x low * 2 ^ by)) (sym place)
      ∙ bit_above (bit_and x low) by (v - by)
      ∙ bit_and_lem x low (v - by)
      ∙ ap (min (bit x (v - by))) (mask_bit (v - by) (omega arith))

  moved_none : (x v : ℕ) → v < 64 → v / by % 2 ≡ 0 → bit (bit_and x low * 2 ^ by % 2 ^ 64) v ≡ 0
  moved_none x v h e = go (dec_lt v by)
    where
      go : Dec (v < by) → bit (bit_and x low * 2 ^ by % 2 ^ 64) v ≡ 0
      go (yes k) = bit_mod (bit_and x low * 2 ^ by) v h ∙ bit_below (bit_and x low) by v k
      go (no k) =
          let above : by ≤ v = omega arith in
          moved_bit x v h above ∙ (rw (half_down_back v e above) (omega arith))

  moved_up : (x v : ℕ) → v < 64 → v / by % 2 ≡ 1 → bit (bit_and x low * 2 ^ by % 2 ^ 64) v ≡ bit x (v - by)
  moved_up x v h e =
      moved_bit x v h (half_down v e).0 ∙ (rw (half_down v e).1 (omega (arith, bit_le_one x (v - by))))

  -- ---- the words of a turn

  module _ (block : List ℕ) where
    abbrev meant : ℕ → ℕ → ℕ
    meant r v = bit (get_or block (with_bit_of by r v) 0) (with_bit_of by v r)

    abbrev first_word : ℕ → ℕ → ℕ
    first_word x y = bit_or (bit_and x low) (bit_and y low * 2 ^ by % 2 ^ 64)

    abbrev second_word : ℕ → ℕ → ℕ
    second_word x y = bit_or (bit_and (x / 2 ^ by) low) (bit_and y ((2 ^ 64 - 1) - low))

    first_is : (k : ℕ) → k / by % 2 ≡ 0 → first_word (get_or block k 0) (get_or block (k + by) 0) ≡ word (meant k)
    first_is k e = word_of_bits (first_word x y) (meant k) small (λ v h. at v h (ℕ_discrete (v / by % 2) 0))
      where
        x : ℕ
        x = get_or block k 0

        y : ℕ
        y = get_or block (k + by) 0

        small : first_word x y < 2 ^ 64
        small =
            or_lt 64 (bit_and x low) (bit_and y low * 2 ^ by % 2 ^ 64) (lt_of_le_of_lt (and_le_r x low) mask_lt) (mod-lt (bit_and y low * 2 ^ by) (pow_pos 64))

        at : (v : ℕ) → v < 64 → Dec (v / by % 2 ≡ 0) → bit (first_word x y) v ≡ meant k v
        at v h (yes z) =
            bit_or_lem (bit_and x low) (bit_and y low * 2 ^ by % 2 ^ 64) v
            ∙ (rw (bit_and_lem x low v, mask_bit v h, moved_none y v h z, z, taken_same k v (e ∙ sym z), taken_same v k (z ∙ sym e))
            (omega (arith, bit_le_one x v)))
        at v h (no z) =
            let one : v / by % 2 ≡ 1 = odd (v / by) z in
            bit_or_lem (bit_and x low) (bit_and y low * 2 ^ by % 2 ^ 64) v
            ∙ (rw (bit_and_lem x low v, mask_bit v h, moved_up y v h one, one, taken_up k v e one, taken_down v k one e)
            (omega (arith, bit_le_one y (v - by))))

    second_is : (k : ℕ) → k / by % 2 ≡ 0 → second_word (get_or block k 0) (get_or block (k + by) 0) ≡ word (meant (k + by))
    second_is k e = word_of_bits (second_word x y) (meant (k + by)) small (λ v h. at v h (ℕ_discrete (v / by % 2) 0))
      where
        x : ℕ
        x = get_or block k 0

        y : ℕ
        y = get_or block (k + by) 0

        up : (k + by) / by % 2 ≡ 1
        up = half_up k e

        small : second_word x y < 2 ^ 64
        small =
            or_lt 64 (bit_and (x / 2 ^ by) low) (bit_and y ((2 ^ 64 - 1) - low)) (lt_of_le_of_lt (and_le_r (x / 2 ^ by) low) mask_lt)
            (lt_of_le_of_lt (and_le_r y ((2 ^ 64 - 1) - low)) (omega (arith, mask_lt)))

        at : (v : ℕ) → v < 64 → Dec (v / by % 2 ≡ 0) → bit (second_word x y) v ≡ meant (k + by) v
        at v h (yes z) =
            let back : k + by - by ≡ k = omega arith in
            bit_or_lem (bit_and (x / 2 ^ by) low) (bit_and y ((2 ^ 64 - 1) - low)) v
            ∙ (rw (
              bit_and_lem (x / 2 ^ by) low v,
              bit_not_under 64 y low v mask_lt h,
              mask_bit v h,
              z,
              bit-right x by v,
              taken_down (k + by) v up z,
              taken_up v (k + by) z up,
              back,
            )
            (omega (arith, bit_le_one x (v + by))))
        at v h (no z) =
            let one : v / by % 2 ≡ 1 = odd (v / by) z in
            bit_or_lem (bit_and (x / 2 ^ by) low) (bit_and y ((2 ^ 64 - 1) - low)) v
            ∙ (rw (
              bit_and_lem (x / 2 ^ by) low v,
              bit_not_under 64 y low v mask_lt h,
              mask_bit v h,
              one,
              taken_same (k + by) v (up ∙ sym one),
              taken_same v (k + by) (one ∙ sym up),
            )
            (omega (arith, bit_le_one y v)))

    -- ---- turns

    turn_done : (i r : ℕ) → turn_of by r < i → turned by block i r ≡ word (meant r)
    turn_done i r h = rw (lt-ltb (turn_of by r) i h)

    turn_left : (i r : ℕ) → i ≤ turn_of by r → turned by block i r ≡ get_or block r 0
    turn_left i r h = rw (le-ltb (turn_of by r) i h)

    pub turns_none : length block ≡ 64 → block ≡ turns_to by block 0
    turns_none long = is-table 0 64 (turned by block 0) block long (λ r h. sym (turn_left 0 r zero-le))

    pub turns_all : turns_to by block 32 ≡ stepped by block
    unfolding stepped
    turns_all = table_cong 64 (turned by block 32) (λ (r : ℕ). word (meant r)) (λ r h. turn_done 32 r (turn_in r h))

    pub turns_more : (i : ℕ) → i < 32 → (now : List ℕ) → now ≡ turns_to by block i
        → let k : ℕ = i + bit_and i (64 - by) in
        set (set now k (first_word (get_or now k 0) (get_or now (k + by) 0))) (k + by) (second_word (get_or now k 0) (get_or now (k + by) 0))
        ≡ turns_to by block (suc i)
    turns_more i h now before =
        is-table 0 64 (turned by block (suc i)) (set (set now k first) (k + by) second)
        (length-set (set now k first) (k + by) second ∙ length-set now k first ∙ long)
        (λ r room. at r room (ℕ_discrete r (k + by)) (ℕ_discrete r k))
      where
        k : ℕ
        k = i + bit_and i (64 - by)

        place : k ≡ pair_of by i
        place = pair_is i h

        first : ℕ
        first = first_word (get_or now k 0) (get_or now (k + by) 0)

        second : ℕ
        second = second_word (get_or now k 0) (get_or now (k + by) 0)

        long : length now ≡ 64
        long = ap length before ∙ length-table 64 (turned by block i)

        inside : k + by < 64
        inside = rw place (pair_in i h)

        half : k / by % 2 ≡ 0
        half = rw place (pair_half i)

        turn_k : turn_of by k ≡ i
        turn_k = rw place (turn_first i)

        turn_k' : turn_of by (k + by) ≡ i
        turn_k' = rw place (turn_second i)

        -- words that no turn has changed yet
        left : (r : ℕ) → r < 64 → turn_of by r ≡ i → get_or now r 0 ≡ get_or block r 0
        left r room e = ap (λ (l : List ℕ). get_or l r 0) before ∙ get_or-table 64 (turned by block i) 0 r room ∙ turn_left i r (le_of_eq (sym e))

        x : get_or now k 0 ≡ get_or block k 0
        x = left k (omega (arith, inside)) turn_k

        y : get_or now (k + by) 0 ≡ get_or block (k + by) 0
        y = left (k + by) inside turn_k'

        done : (r : ℕ) → turn_of by r ≡ i → turned by block (suc i) r ≡ word (meant r)
        done r e = turn_done (suc i) r (suc-le-suc (le_of_eq e))

        other : (r : ℕ) → Dec (turn_of by r < i) → (turn_of by r ≡ i → ⊥) → turned by block i r ≡ turned by block (suc i) r
        other r (yes q) apart = turn_done i r q ∙ sym (turn_done (suc i) r (le_trans q (le-suc i)))
        other r (no q) apart = let later = next (turn_of by r) i q apart in turn_left i r (le_of_suc-le later) ∙ sym (turn_left (suc i) r later)

        at : (r : ℕ) → r < 64 → Dec (r ≡ k + by) → Dec (r ≡ k) → get_or (set (set now k first) (k + by) second) r 0 ≡ turned by block (suc i) r
        at r room (yes e) q =
            rw (e, get_or-set_same (set now k first) (k + by) second 0 (simp length-set (omega (arith, inside, long))), x, y)
            (second_is k half ∙ sym (done (k + by) turn_k'))
        at r room (no e) (yes q) =
            get_or-set_other (set now k first) (k + by) r second 0 e
            ∙ (rw (q, get_or-set_same now k first 0 (omega (arith, inside, long)), x, y) (first_is k half ∙ sym (done k turn_k)))
        at r room (no e) (no q) =
            get_or-set_other (set now k first) (k + by) r second 0 e
            ∙ get_or-set_other now k r first 0 q
            ∙ ap (λ (l : List ℕ). get_or l r 0) before
            ∙ get_or-table 64 (turned by block i) 0 r room
            ∙ other r (dec_lt (turn_of by r) i) (λ t.
            turn_other r
            (λ c. q (c ∙ ap (pair_of by) t ∙ sym place))
            (λ c. e (c ∙ ap (λ (j : ℕ). pair_of by j + by) t ∙ ap (λ (j : ℕ). j + by) (sym place))))

  -- ---- step by step

  taken_mixed : (r v : ℕ) → mixed (2 * by) (with_bit_of by v r) (with_bit_of by r v) ≡ mixed by v r
  unfolding with_bit_of
  taken_mixed =
      each (λ (m : ℕ). (r v : ℕ) → mixed (2 * m) (with_bit_of m v r) (with_bit_of m r v) ≡ mixed m v r)
      (λ r v. omega arith) (λ r v. omega arith) (λ r v. omega arith) (λ r v. omega arith) (λ r v. omega arith) (λ r v. omega arith)

  steps_next : (block : List ℕ) → stepped by (stepped_to (2 * by) block) ≡ stepped_to by block
  unfolding stepped word
  steps_next block =
      table_cong 64 (λ (r : ℕ). word (λ (v : ℕ). bit (get_or (stepped_to (2 * by) block) (with_bit_of by r v) 0) (with_bit_of by v r)))
      (λ (r : ℕ). word (spread by block r)) (λ r hr.
      pack_cong 64 (λ (v : ℕ). bit (get_or (stepped_to (2 * by) block) (with_bit_of by r v) 0) (with_bit_of by v r)) (spread by block r) (λ v hv.
      ap (λ (x : ℕ). bit x (with_bit_of by v r)) (get_or-table 64 (λ (q : ℕ). word (spread (2 * by) block q)) 0 (with_bit_of by r v) (taken_in r v hr hv))
      ∙ bit_word (spread (2 * by) block (with_bit_of by r v)) (λ u. bit_le_one _ _) (with_bit_of by v r) (taken_in v r hv hr)
      ∙ (rw (taken_mixed r v, taken_mixed v r))))

pub step_32 : Step 32 4294967295
unfolding word pack
step_32 = record { place = 5; few = omega arith; value = refl; mask = refl }

pub step_16 : Step 16 281470681808895
unfolding word pack
step_16 = record { place = 4; few = omega arith; value = refl; mask = refl }

pub step_8 : Step 8 71777214294589695
unfolding word pack
step_8 = record { place = 3; few = omega arith; value = refl; mask = refl }

pub step_4 : Step 4 1085102592571150095
unfolding word pack
step_4 = record { place = 2; few = omega arith; value = refl; mask = refl }

pub step_2 : Step 2 3689348814741910323
unfolding word pack
step_2 = record { place = 1; few = omega arith; value = refl; mask = refl }

pub step_1 : Step 1 6148914691236517205
unfolding word pack
step_1 = record { place = 0; few = omega arith; value = refl; mask = refl }

steps_first : (block : List ℕ) → stepped 32 block ≡ stepped_to 32 block
unfolding stepped with_bit_of word
steps_first block =
    table_cong 64 (λ (r : ℕ). word (λ (v : ℕ). bit (get_or block (with_bit_of 32 r v) 0) (with_bit_of 32 v r))) (λ (r : ℕ). word (spread 32 block r)) (λ r hr.
    pack_cong 64 (λ (v : ℕ). bit (get_or block (with_bit_of 32 r v) 0) (with_bit_of 32 v r)) (spread 32 block r) (λ v hv.
    let row : with_bit_of 32 r v ≡ mixed 32 v r = omega arith in
    let place : with_bit_of 32 v r ≡ mixed 32 r v = omega arith in
    rw (row, place)))

steps-last : (block : List ℕ) → stepped_to 1 block ≡ transposed block
unfolding transposed word
steps-last block =
    table_cong 64 (λ (r : ℕ). word (spread 1 block r)) (λ (r : ℕ). word (λ (v : ℕ). bit (get_or block v 0) r)) (λ r hr.
    pack_cong 64 (spread 1 block r) (λ (v : ℕ). bit (get_or block v 0) r) (λ v hv.
    let row : mixed 1 v r ≡ v = omega arith in
    let place : mixed 1 r v ≡ r = omega arith in
    rw (row, place)))

-- the six steps in a row
pub steps_all : {a b c d e f : List ℕ} (block : List ℕ) → a ≡ stepped 32 block → b ≡ stepped 16 a → c ≡ stepped 8 b → d ≡ stepped 4 c → e ≡ stepped 2 d
    → f ≡ stepped 1 e → f ≡ transposed block
steps_all block e₁ e₂ e₃ e₄ e₅ e₆ =
    rw (
      e₆,
      e₅,
      e₄,
      e₃,
      e₂,
      e₁,
      steps_first block,
      steps_next 16 _ step_16 block,
      steps_next 8 _ step_8 block,
      steps_next 4 _ step_4 block,
      steps_next 2 _ step_2 block,
      steps_next 1 _ step_1 block,
    )
    (steps-last block)
