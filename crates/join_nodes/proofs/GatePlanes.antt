-- The planes of gates: how they are filled, word by word, from the known-1 planes and the known-0 planes of the labels; and that a plane
-- tells of a transistor what
-- the two planes of its label do. Assumes nothing.
use Prim.Native.Nat.{ℕ, suc, ◌+◌, ◌-◌, ◌*◌, ◌/◌, ◌%◌, ◌≤◌, ◌<◌, zero-le}
use native.Mathlib.Nat.{mul-le-mul_left, mul-add}
use native.Mathlib.Decide.{ℕ_discrete, dec_lt}
use native.Mathlib.Omega.{arith}
use mathlib.Core.Path.{◌≡◌, sym, ◌∙◌}
use mathlib.Core.List.{List}
use lib.ListN.{length, get_or, set, replicate, length-set, length-replicate, get_or-eq_default}
use lib.Seq.{get_or-set_same, get_or-set_other}
use Rattle.words.specs.Bits.{bit, of_bool}
use Rattle.words.specs.Each.{word_of_each}
use Rattle.words.specs.Tables.{up_to}
use Rattle.words.proofs.Laws.{bit_le_one}
use Rattle.words.proofs.Tables.{length-table, up-below, up-past}
use Rattle.words.proofs.EachLaws.{each_in, each_at}
use Rattle.switch.specs.Conduction.{Channel, channel_p, channel_n, channel_by}
use Rattle.switch.specs.Records.{by_planes}
use Rattle.switch.proofs.Outputs.{set-again}
use Rattle.join_nodes.specs.Model.{plane_of, WidePlanes}
use Rattle.join_nodes.proofs.RoundLaws.{zero-at}

-- ---- what a plane tells

pub bit-plane_of : (ones zeros : List ℕ) (v : ℕ) (c : Channel) (l : ℕ) → bit (plane_of ones zeros c l) v ≡ of_bool (by_planes ones zeros v c l)
unfolding plane_of by_planes
bit-plane_of ones zeros v channel_p l = sym (set-again (bit (get_or zeros l 0) v) (bit_le_one (get_or zeros l 0) v))
bit-plane_of ones zeros v channel_n l = sym (set-again (bit (get_or ones l 0) v) (bit_le_one (get_or ones l 0) v))

-- ---- filling

-- one word more of a plane, at its place, and the others
up_same : (n : ℕ) (f : ℕ → ℕ) (j : ℕ) → (j ≡ n → ⊥) → up_to n f j ≡ up_to (suc n) f j
up_same n f j apart = at (dec_lt j n)
  where
    at : Dec (j < n) → up_to n f j ≡ up_to (suc n) f j
    at (yes h) = up-below n f j h ∙ sym (up-below (suc n) f j (omega arith))
    at (no h) = up-past n f j (omega arith) ∙ sym (up-past (suc n) f j (omega arith))

module _ (ones zeros : List ℕ) (width : ℕ) where
  -- the first n words of each plane stand in their places, and the others are 0
  pub record FilledTo (planes : List ℕ) (n : ℕ) : Type 0 where
    pub long : length planes ≡ width * 32
    pub for_n : (j : ℕ) → j < width * 16 → get_or planes j 0 ≡ up_to n (λ (i : ℕ). get_or ones i 0) j
    pub for_p : (j : ℕ) → j < width * 16 → get_or planes (width * 16 + j) 0 ≡ up_to n (λ (i : ℕ). get_or zeros i 0) j

  pub filled_none : FilledTo (replicate (width * 32) 0) 0
  filled_none = record {
    long = length-replicate (width * 32) 0;
    for_n = λ j h. zero-at (width * 32) j ∙ sym (up-past 0 (λ (i : ℕ). get_or ones i 0) j zero-le);
    for_p = λ j h. zero-at (width * 32) (width * 16 + j) ∙ sym (up-past 0 (λ (i : ℕ). get_or zeros i 0) j zero-le);
  }

  module _ (planes : List ℕ) (n : ℕ) (h : n < width * 12) (f : FilledTo planes n) where
    abbrev half : List ℕ
    half = set planes n (get_or ones n 0)

    abbrev full : List ℕ
    full = set half (width * 16 + n) (get_or zeros n 0)

    half_long : length half ≡ width * 32
    half_long = simp length-set f.long

    n_at : (j : ℕ) → j < width * 16 → Dec (j ≡ n) → get_or full j 0 ≡ up_to (suc n) (λ (i : ℕ). get_or ones i 0) j
    n_at j k (yes e) =
        get_or-set_other half (width * 16 + n) j (get_or zeros n 0) 0 (λ q. omega arith)
        ∙ rw e (get_or-set_same planes n (get_or ones n 0) 0 (omega (arith, f.long)) ∙ sym (up-below (suc n) (λ (i : ℕ). get_or ones i 0) n (omega arith)))
    n_at j k (no e) =
        get_or-set_other half (width * 16 + n) j (get_or zeros n 0) 0 (λ q. omega arith)
        ∙ get_or-set_other planes n j (get_or ones n 0) 0 e
        ∙ f.for_n j k
        ∙ up_same n (λ (i : ℕ). get_or ones i 0) j e

    p_at : (j : ℕ) → j < width * 16 → Dec (j ≡ n) → get_or full (width * 16 + j) 0 ≡ up_to (suc n) (λ (i : ℕ). get_or zeros i 0) j
    p_at j k (yes e) =
        rw e (get_or-set_same half (width * 16 + n) (get_or zeros n 0) 0 (omega (arith, half_long)) ∙ sym (up-below (suc n) (λ (i : ℕ). get_or zeros i 0) n (omega arith)))
    p_at j k (no e) =
        get_or-set_other half (width * 16 + n) (width * 16 + j) (get_or zeros n 0) 0 (λ q. e (omega arith))
        ∙ get_or-set_other planes n (width * 16 + j) (get_or ones n 0) 0 (λ q. omega arith)
        ∙ f.for_p j k
        ∙ up_same n (λ (i : ℕ). get_or zeros i 0) j e

    pub filled_more : FilledTo full (suc n)
    filled_more = record {
      long = simp length-set f.long;
      for_n = λ j k. n_at j k (ℕ_discrete j n);
      for_p = λ j k. p_at j k (ℕ_discrete j n);
    }

  -- ---- all of it

  -- the words of the labels, and 0 past the last
  label_at : (words : List ℕ) (w m : ℕ) → w < width → up_to (width * 12) (λ (i : ℕ). get_or words i 0) (width * m + w) ≡ get_or (word_of_each width w 12 words) m 0
  unfolding word_of_each
  label_at words w m h = at (dec_lt m 12)
    where
      at : Dec (m < 12) → up_to (width * 12) (λ (i : ℕ). get_or words i 0) (width * m + w) ≡ get_or (word_of_each width w 12 words) m 0
      at (yes k) = up-below (width * 12) (λ (i : ℕ). get_or words i 0) (width * m + w) (each_in width w 12 m k h) ∙ sym (each_at width w 12 words m k)
      at (no k) =
          let past : 12 ≤ m = omega arith in
          up-past (width * 12) (λ (i : ℕ). get_or words i 0) (width * m + w) (omega (arith, mul-le-mul_left width past))
          ∙ sym (get_or-eq_default (word_of_each width w 12 words) 0 (omega (arith, length-table 12 (λ (i : ℕ). get_or words (width * i + w) 0))))

  module _ (planes : List ℕ) (f : FilledTo planes (width * 12)) (w : ℕ) (h : w < width) where
    abbrev Tells : ℕ → Type 0
    Tells g = get_or planes (width * g + w) 0 ≡ plane_of (word_of_each width w 12 ones) (word_of_each width w 12 zeros) (channel_by (g / 16)) (g % 16)

    gate_n : (g : ℕ) → g < 16 → Tells g
    unfolding plane_of channel_by
    gate_n g k =
        let channel : g / 16 ≡ 0 = omega arith in
        let label : g % 16 ≡ g = omega arith in
        rw (channel, label) (f.for_n (width * g + w) (each_in width w 16 g k h) ∙ label_at ones w g h)

    gate_p : (l : ℕ) → l < 16 → Tells (16 + l)
    unfolding plane_of channel_by
    gate_p l k =
        let channel : (16 + l) / 16 ≡ 1 = omega arith in
        let label : (16 + l) % 16 ≡ l = omega arith in
        let place : width * (16 + l) + w ≡ width * 16 + (width * l + w) = omega (arith, mul-add width 16 l) in
        rw (channel, label, place) (f.for_p (width * l + w) (each_in width w 16 l k h) ∙ label_at zeros w l h)

    gate_at : (g : ℕ) → g < 32 → Dec (g < 16) → Tells g
    gate_at g k (yes n) = gate_n g n
    gate_at g k (no n) =
        let above : g ≡ 16 + (g - 16) = omega arith in
        rw above (gate_p (g - 16) (omega arith))

  pub filled_all : (planes : List ℕ) → FilledTo planes (width * 12) → WidePlanes ones zeros width planes
  filled_all planes f = record { long = f.long; each = λ w g h k. gate_at planes f w h g k (dec_lt g 16) }
