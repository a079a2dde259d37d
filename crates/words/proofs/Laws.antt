-- The laws of bits and packing, each over the bit's position: what a bit is of an `or`, an `and`, a complement, a packed word and a number in blocks,
-- and that a number below 2 ^ n is packed from its n bits, so that two such numbers with the same bits are equal. Assumes nothing.
use mathlib.Core.Path.{◌≡◌, refl, sym, ap, ◌∙◌}
use mathlib.Core.Bool.{Bool, true, false, ◌&&◌, ◌||◌}
use Prim.Native.Nat.{ℕ, zero, suc, ◌+◌, ◌-◌, ◌*◌, ◌/◌, ◌%◌, ◌^◌, ◌≤◌, ◌<◌, min, max}
use native.Mathlib.Nat.{div-one, zero-div, div-div-eq-div-mul, div-eq_of_lt, lt_of_lt_of_le, pow-suc, pow-succ', mul_comm, sub-zero, not-suc-le-zero}
use native.Mathlib.Omega.{arith}
use lib.Arith.{lt-one}
use lib.Bits.{bit_and, bit_or, and_shr, or_shr, and_step, or_step, or_add_and, and_le_l, and_le_r}
use lib.Dec.{T}
use lib.Pow.{pow_pos, pow_mono, shr-shr, high}
use Rattle.words.specs.Bits.{bit, of_bool, pack, word}
use Rattle.words.specs.Statements.{BitPack, PackBits}

-- ---- one bit

pub bit_le_one : (w v : ℕ) → bit w v ≤ 1
unfolding bit
bit_le_one w v = omega arith

pub bit-zero : (v : ℕ) → bit 0 v ≡ 0
unfolding bit
bit-zero v = ap (λ (x : ℕ). x % 2) (zero-div (2 ^ v))

-- bit 0 is the remainder by 2, and the others are those of the half: by these two a law goes from a word to its half
pub bit-here : (w : ℕ) → bit w 0 ≡ w % 2
unfolding bit
bit-here w = ap (λ (x : ℕ). x % 2) (div-one w)

pub bit-suc : (w v : ℕ) → bit w (suc v) ≡ bit (w / 2) v
unfolding bit
bit-suc w v = rw (pow-succ', ← div-div-eq-div-mul)

-- bits past the length are 0
pub bit_past : (n w v : ℕ) → w < 2 ^ n → n ≤ v → bit w v ≡ 0
unfolding bit
bit_past n w v h l = ap (λ (x : ℕ). x % 2) (div-eq_of_lt (lt_of_lt_of_le h (pow_mono l)))

pub of_bool_le_one : (b : Bool) → of_bool b ≤ 1
of_bool_le_one true = omega arith
of_bool_le_one false = omega arith

-- the number of an and is the smaller, that of an or the larger
pub min_and : (a b : Bool) → min (of_bool a) (of_bool b) ≡ of_bool (a && b)
min_and true b = omega (arith, of_bool_le_one b)
min_and false b = omega arith

pub max_or : (a b : Bool) → max (of_bool a) (of_bool b) ≡ of_bool (a || b)
max_or true b = omega (arith, of_bool_le_one b)
max_or false b = omega arith

-- a test that holds wherever another does has no smaller number
pub of_bool_le : (a b : Bool) → (T a → T b) → of_bool a ≤ of_bool b
of_bool_le true true f = omega arith
of_bool_le true false f = absurd (f tt)
of_bool_le false b f = omega arith

-- a test holds exactly when its number is 1
pub set-bit : (b : Bool) → of_bool b ≡ 1 → T b
set-bit true e = tt
set-bit false e = absurd (omega arith)

pub bit-set : (b : Bool) → T b → of_bool b ≡ 1
bit-set true t = refl
bit-set false t = absurd t

-- ---- the operations on words

-- an or is 0 where both are, and only there
pub or_none : (a b : ℕ) → a ≡ 0 → b ≡ 0 → bit_or a b ≡ 0
or_none a b p q = omega (arith, or_add_and a b)

pub none_or : (a b : ℕ) → bit_or a b ≡ 0 → (a ≡ 0) × (b ≡ 0)
none_or a b e = omega (arith, or_add_and a b, and_le_l a b, and_le_r a b)

pub bit_or_lem : (a b v : ℕ) → bit (bit_or a b) v ≡ max (bit a v) (bit b v)
unfolding bit
bit_or_lem a b v = omega (arith, or_shr a b v, or_step (a / 2 ^ v) (b / 2 ^ v))

pub bit_and_lem : (a b v : ℕ) → bit (bit_and a b) v ≡ min (bit a v) (bit b v)
unfolding bit
bit_and_lem a b v = omega (arith, and_shr a b v, and_step (a / 2 ^ v) (b / 2 ^ v))

-- halving takes one bit off the length
pub half_lt : (n w : ℕ) → w < 2 ^ suc n → w / 2 < 2 ^ n
half_lt n w h = omega (arith, pow-suc 2 n)

-- the complement within n bits
pub bit_not : (n w v : ℕ) → w < 2 ^ n → v < n → bit ((2 ^ n - 1) - w) v ≡ 1 - bit w v
bit_not zero w v h l = absurd (not-suc-le-zero l)
bit_not (suc n) w zero h l = simp bit-here (omega (arith, pow-suc 2 n))
bit_not (suc n) w (suc v) h l =
    let half : ((2 ^ suc n - 1) - w) / 2 ≡ (2 ^ n - 1) - w / 2 = omega (arith, pow-suc 2 n) in
    simp (bit-suc, half) (bit_not n (w / 2) v (half_lt n w h) (omega arith))

pub bit_not_under : (n m w v : ℕ) → w < 2 ^ n → v < n → bit (bit_and m ((2 ^ n - 1) - w)) v ≡ min (bit m v) (1 - bit w v)
bit_not_under n m w v h l = rw (bit_and_lem, bit_not n w v h l)

pub bit-ones : (n v : ℕ) → v < n → bit (2 ^ n - 1) v ≡ 1
bit-ones n v l = rw (← (sub-zero (2 ^ n - 1)), bit_not n 0 v (pow_pos n) l, bit-zero)

-- ---- numbers in blocks of 2 ^ n: the low n bits are those of the place in the block, the others those of the block

pub bit-block : (n b v l : ℕ) → v < 2 ^ n → l < n → bit (2 ^ n * b + v) l ≡ bit v l
bit-block zero b v l h k = absurd (not-suc-le-zero k)
bit-block (suc n) b v zero h k = simp (bit-here, pow-suc) (omega arith)
bit-block (suc n) b v (suc l) h k =
    let half : (2 ^ suc n * b + v) / 2 ≡ 2 ^ n * b + v / 2 = rw pow-suc (omega arith) in
    simp (bit-suc, half) (bit-block n b (v / 2) l (half_lt n v h) (omega arith))

pub bit-block-high : (n b v l : ℕ) → v < 2 ^ n → bit (2 ^ n * b + v) (n + l) ≡ bit b l
unfolding bit
bit-block-high n b v l h = rw (← (shr-shr (2 ^ n * b + v) n l), mul_comm (2 ^ n) b, high b n h)

-- ---- packing

pub bit-pack : BitPack
unfolding pack
bit-pack zero f d v l = absurd (not-suc-le-zero l)
bit-pack (suc n) f d zero l = rw bit-here (omega (arith, d 0 l))
bit-pack (suc n) f d (suc v) l =
    let rest : ℕ = pack n (λ (u : ℕ). f (suc u)) in
    let half : (f 0 + 2 * rest) / 2 ≡ rest = omega (arith, d 0 (omega arith)) in
    rw (bit-suc, half) (bit-pack n (λ (u : ℕ). f (suc u)) (λ u k. d (suc u) (omega arith)) v (omega arith))

pub pack_lt : (n : ℕ) (f : ℕ → ℕ) → ((v : ℕ) → v < n → f v ≤ 1) → pack n f < 2 ^ n
unfolding pack
pack_lt zero f d = omega arith
pack_lt (suc n) f d =
    omega (arith, pow-suc 2 n, d 0 (omega arith), pack_lt n (λ (u : ℕ). f (suc u)) (λ u k. d (suc u) (omega arith)))

pub pack_cong : (n : ℕ) (f g : ℕ → ℕ) → ((v : ℕ) → v < n → f v ≡ g v) → pack n f ≡ pack n g
unfolding pack
pack_cong zero f g e = refl
pack_cong (suc n) f g e =
    omega (arith, e 0 (omega arith), pack_cong n (λ (u : ℕ). f (suc u)) (λ (u : ℕ). g (suc u)) (λ u k. e (suc u) (omega arith)))

-- a number of n bits is packed from its bits
pub pack-bits : PackBits
unfolding pack
pack-bits zero w h = sym (lt-one h)
pack-bits (suc n) w h =
    omega (arith, bit-here w, pack_cong n (λ (v : ℕ). bit w (suc v)) (bit (w / 2)) (λ v k. bit-suc w v), pack-bits n (w / 2) (half_lt n w h))

pub pack-zero : (n : ℕ) → pack n (λ (v : ℕ). 0) ≡ 0
unfolding pack
pack-zero zero = refl
pack-zero (suc n) = omega (arith, pack-zero n)

pub pack_one : (n : ℕ) → pack n (λ (v : ℕ). 1) ≡ 2 ^ n - 1
unfolding pack
pack_one zero = refl
pack_one (suc n) = omega (arith, pack_one n, pow-suc 2 n, pow_pos n)

-- two numbers of n bits with the same bits are equal
pub bits_eq : (n a b : ℕ) → a < 2 ^ n → b < 2 ^ n → ((v : ℕ) → v < n → bit a v ≡ bit b v) → a ≡ b
bits_eq n a b ha hb e = sym (pack-bits n a ha) ∙ pack_cong n (bit a) (bit b) e ∙ pack-bits n b hb

-- ---- words

-- a word that has f's bits is the word packed from f
pub word_of_bits : (w : ℕ) (f : ℕ → ℕ) → w < 2 ^ 64 → ((v : ℕ) → v < 64 → bit w v ≡ f v) → w ≡ word f
unfolding word
word_of_bits w f h e = sym (pack-bits 64 w h) ∙ pack_cong 64 (bit w) f e

pub bit_word : (f : ℕ → ℕ) → ((v : ℕ) → f v ≤ 1) → (v : ℕ) → v < 64 → bit (word f) v ≡ f v
unfolding word
bit_word f d v l = bit-pack 64 f (λ u k. d u) v l

pub word_lt : (f : ℕ → ℕ) → ((v : ℕ) → f v ≤ 1) → word f < 2 ^ 64
unfolding word
word_lt f d = pack_lt 64 f (λ u k. d u)
