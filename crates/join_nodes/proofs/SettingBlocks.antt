-- The planes of 64 settings: a label below 6 has one pattern in every block, any other label is all ones or all zeros by a bit of the
-- block, and the
-- known-0 plane is the complement. So the planes give the settings' values. Assumes nothing.
use mathlib.Core.Path.{◌≡◌, refl, sym, ap, ◌∙◌}
use mathlib.Core.List.{List, [], ◌∷◌}
use Prim.Native.Nat.{ℕ, zero, suc, ◌+◌, ◌-◌, ◌*◌, ◌^◌, ◌≤◌, ◌<◌}
use native.Mathlib.Omega.{arith}
use lib.ListN.{get_or, set}
use lib.Seq.{set-get_or}
use Rattle.words.specs.Bits.{bit, pack, word}
use Rattle.words.specs.Tables.{table, up_to}
use Rattle.words.proofs.Laws.{bit_le_one, bit_not, bit-block, bit-block-high}
use Rattle.words.proofs.Laws.{pack_cong, pack-zero, pack_one, word_of_bits, bit_word, word_lt}
use Rattle.words.proofs.Tables.{get_or-table, up-past, fill_more}
use Rattle.switch.specs.Conduction.{Channel, channel_p, channel_n, transistor_on}
use Rattle.switch.specs.Modules.{value_of_bit, setting_of}
use Rattle.switch.specs.Records.{is_set, by_planes}
use Rattle.join_nodes.specs.Model.{setting_ones, setting_zeros}

-- ---- planes

-- the known-1 plane of label l under the settings of a block
abbrev pub plane : ℕ → ℕ → ℕ
plane block l = word (λ (v : ℕ). bit (64 * block + v) l)

plane_lt : (block l : ℕ) → plane block l < 2 ^ 64
plane_lt block l = word_lt (λ (v : ℕ). bit (64 * block + v) l) (λ v. bit_le_one (64 * block + v) l)

-- a label below 6 has the same plane in every block
plane-low : (block l : ℕ) → l < 6 → plane block l ≡ word (λ (v : ℕ). bit v l)
unfolding word
plane-low block l h = pack_cong 64 (λ (v : ℕ). bit (64 * block + v) l) (λ (v : ℕ). bit v l) (λ v k. bit-block 6 block v l k h)

-- any other label has one bit of the block at every place
plane-high : (block l : ℕ) → plane block (6 + l) ≡ word (λ (v : ℕ). bit block l)
unfolding word
plane-high block l =
    pack_cong 64 (λ (v : ℕ). bit (64 * block + v) (6 + l)) (λ (v : ℕ). bit block l) (λ v k. bit-block-high 6 block v l k)

plane-one : (block l : ℕ) → 6 ≤ l → bit block (l - 6) ≡ 1 → plane block l ≡ 2 ^ 64 - 1
unfolding word
plane-one block l h e =
    let whole : l ≡ 6 + (l - 6) = omega arith in ap (plane block) whole ∙ plane-high block (l - 6) ∙ simp e (pack_one 64)

plane-zero : (block l : ℕ) → 6 ≤ l → bit block (l - 6) ≡ 0 → plane block l ≡ 0
unfolding word
plane-zero block l h e =
    let whole : l ≡ 6 + (l - 6) = omega arith in ap (plane block) whole ∙ plane-high block (l - 6) ∙ simp e (pack-zero 64)

-- the patterns of the labels below 6
abbrev pub patterns : List ℕ
patterns =
    0xaaaa_aaaa_aaaa_aaaa ∷ 0xcccc_cccc_cccc_cccc ∷ 0xf0f0_f0f0_f0f0_f0f0 ∷ 0xff00_ff00_ff00_ff00 ∷ 0xffff_0000_ffff_0000 ∷ 0xffff_ffff_0000_0000
    ∷ 0 ∷ 0 ∷ 0 ∷ 0 ∷ 0 ∷ 0 ∷ []

abbrev pattern : ℕ → ℕ
pattern l = word (λ (v : ℕ). bit v l)

patterns-are : patterns ≡ table 12 (up_to 6 pattern)
unfolding table up_to word pack bit
patterns-are = refl

pub low-planes : (block : ℕ) → patterns ≡ table 12 (up_to 6 (plane block))
unfolding table up_to
low-planes block =
    let low : (l : ℕ) → l < 6 → plane block l ≡ pattern l = plane-low block in
    rw (low 0 (omega arith), low 1 (omega arith), low 2 (omega arith), low 3 (omega arith), low 4 (omega arith), low 5 (omega arith)) patterns-are

-- one label more, of those from 6 on: all ones are written, zeros stand there
pub planes-one : (block l : ℕ) → 6 ≤ l → l < 12 → bit block (l - 6) ≡ 1
    → set (table 12 (up_to l (plane block))) l (2 ^ 64 - 1) ≡ table 12 (up_to (suc l) (plane block))
planes-one block l h k e = ap (set (table 12 (up_to l (plane block))) l) (sym (plane-one block l h e)) ∙ fill_more 12 (plane block) l k

pub planes-zero : (block l : ℕ) → 6 ≤ l → l < 12 → (bit block (l - 6) ≡ 1 → ⊥)
    → table 12 (up_to l (plane block)) ≡ table 12 (up_to (suc l) (plane block))
planes-zero block l h k e =
    let done : List ℕ = table 12 (up_to l (plane block)) in
    let stands : get_or done l 0 ≡ plane block l =
    get_or-table 12 (up_to l (plane block)) 0 l k
    ∙ rw (up-past l (plane block) l (omega arith)) (sym (plane-zero block l h (omega (arith, bit_le_one block (l - 6))))) in
    sym (set-get_or done l 0) ∙ ap (set done l) stands ∙ fill_more 12 (plane block) l k

pub settings_of_planes : (block : ℕ) → table 12 (up_to 12 (plane block)) ≡ setting_ones block
unfolding setting_ones table up_to
settings_of_planes block = refl

-- ---- the known-0 planes

abbrev pub zero_plane : ℕ → ℕ → ℕ
zero_plane block l = word (λ (v : ℕ). 1 - bit (64 * block + v) l)

pub plane-not : (block l : ℕ) → l < 12 → (2 ^ 64 - 1) - get_or (setting_ones block) l 0 ≡ zero_plane block l
unfolding setting_ones
plane-not block l h =
    rw (get_or-table 12 (plane block) 0 l h)
    (word_of_bits ((2 ^ 64 - 1) - plane block l) (λ (v : ℕ). 1 - bit (64 * block + v) l) (omega arith) (λ v k.
    bit_not 64 (plane block l) v (plane_lt block l) k
    ∙ ap (λ (b : ℕ). 1 - b) (bit_word (λ (u : ℕ). bit (64 * block + u) l) (λ u. bit_le_one (64 * block + u) l) v k)))

-- ---- the planes switch on what the settings' values do

p-known : (b : ℕ) → is_set (1 - b) ≡ transistor_on channel_p (value_of_bit b)
unfolding is_set transistor_on value_of_bit
p-known zero = refl
p-known (suc b) = let none : 1 - suc b ≡ 0 = omega arith in rw none

n-known : (b : ℕ) → is_set b ≡ transistor_on channel_n (value_of_bit b)
unfolding is_set transistor_on value_of_bit
n-known zero = refl
n-known (suc b) = refl

pub settings_switch : (block v : ℕ) (c : Channel) (l : ℕ) → v < 64 → l < 12
    → by_planes (setting_ones block) (setting_zeros block) v c l ≡ transistor_on c (setting_of (64 * block + v) l)
unfolding by_planes setting_of setting_ones setting_zeros
settings_switch block v channel_p l h k =
    rw (get_or-table 12 (zero_plane block) 0 l k, bit_word (λ (u : ℕ). 1 - bit (64 * block + u) l) (λ u. omega arith) v h)
    (p-known (bit (64 * block + v) l))
settings_switch block v channel_n l h k =
    rw (get_or-table 12 (plane block) 0 l k, bit_word (λ (u : ℕ). bit (64 * block + u) l) (λ u. bit_le_one (64 * block + u) l) v h)
    (n-known (bit (64 * block + v) l))
