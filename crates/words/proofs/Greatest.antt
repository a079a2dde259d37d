-- The greatest of a function over the positions below a number: at least each, at most what each is at most, and one of them unless it is 0;
-- and of positions that are taken 64 to a word. Assumes nothing.
use Prim.Native.Nat.{ℕ, zero, suc, ◌+◌, ◌*◌, ◌/◌, ◌%◌, ◌<◌, ◌≤◌, max}
use mathlib.Core.Path.{◌≡◌, refl, ap, ap₂}
use mathlib.Core.Logic.{◌⊎◌, inl, inr}
use native.Mathlib.Decide.{ℕ_discrete, dec_lt}
use native.Mathlib.Omega.{arith}
use Rattle.words.specs.Bits.{greatest_to}

pub greatest_part : (n : ℕ) (f : ℕ → ℕ) (v : ℕ) → v < n → f v ≤ greatest_to n f
unfolding greatest_to
greatest_part zero f v h = absurd (omega arith)
greatest_part (suc n) f zero h = omega arith
greatest_part (suc n) f (suc v) h = omega (arith, greatest_part n (λ (u : ℕ). f (suc u)) v (omega arith))

pub greatest-most : (n : ℕ) (f : ℕ → ℕ) (m : ℕ) → ((v : ℕ) → v < n → f v ≤ m) → greatest_to n f ≤ m
unfolding greatest_to
greatest-most zero f m h = omega arith
greatest-most (suc n) f m h = omega (arith, h 0 (omega arith), greatest-most n (λ (u : ℕ). f (suc u)) m (λ v k. h (suc v) (omega arith)))

pub greatest-attained : (n : ℕ) (f : ℕ → ℕ) → (greatest_to n f ≡ 0) ⊎ ((v : ℕ) × (v < n) × (greatest_to n f ≡ f v))
unfolding greatest_to
greatest-attained zero f = inl refl
greatest-attained (suc n) f = go (ℕ_discrete (max (f 0) rest) (f 0)) (greatest-attained n (λ (u : ℕ). f (suc u)))
  where
    rest : ℕ
    rest = greatest_to n (λ (u : ℕ). f (suc u))

    go : Dec (max (f 0) rest ≡ f 0) → (rest ≡ 0) ⊎ ((v : ℕ) × (v < n) × (rest ≡ f (suc v)))
        → (max (f 0) rest ≡ 0) ⊎ ((v : ℕ) × (v < suc n) × (max (f 0) rest ≡ f v))
    go (yes e) later = inr (0, omega arith, e)
    go (no e) (inl z) = absurd (e (omega arith))
    go (no e) (inr (v, h, q)) = inr (suc v, omega arith, omega arith)

pub greatest_cong : (n : ℕ) (f g : ℕ → ℕ) → ((v : ℕ) → v < n → f v ≡ g v) → greatest_to n f ≡ greatest_to n g
unfolding greatest_to
greatest_cong zero f g h = refl
greatest_cong (suc n) f g h = ap₂ max (h 0 (omega arith)) (greatest_cong n (λ (u : ℕ). f (suc u)) (λ (u : ℕ). g (suc u)) (λ v k. h (suc v) (omega arith)))

-- one position more
pub greatest-more : (n : ℕ) (f : ℕ → ℕ) → greatest_to (suc n) f ≡ max (greatest_to n f) (f n)
unfolding greatest_to
greatest-more zero f = omega arith
greatest-more (suc n) f = omega (arith, greatest-more n (λ (u : ℕ). f (suc u)))

-- over the positions of `words` words, where f is 0 from n on: it is that over the positions below n
pub greatest-by-words : (words n : ℕ) (f : ℕ → ℕ) → n ≤ 64 * words → ((v : ℕ) → n ≤ v → f v ≡ 0)
    → greatest_to words (λ (w : ℕ). greatest_to 64 (λ (v : ℕ). f (64 * w + v))) ≡ greatest_to n f
greatest-by-words words n f few past = omega (arith, most, least)
  where
    in_word : ℕ → ℕ
    in_word w = greatest_to 64 (λ (v : ℕ). f (64 * w + v))

    each : (u : ℕ) → Dec (u < n) → f u ≤ greatest_to n f
    each u (yes h) = greatest_part n f u h
    each u (no h) = omega (arith, past u (omega arith))

    most : greatest_to words in_word ≤ greatest_to n f
    most =
        greatest-most words in_word (greatest_to n f) (λ w h.
        greatest-most 64 (λ (v : ℕ). f (64 * w + v)) (greatest_to n f) (λ v k. each (64 * w + v) (dec_lt (64 * w + v) n)))

    least : greatest_to n f ≤ greatest_to words in_word
    least =
        greatest-most n f (greatest_to words in_word) (λ u h.
        let place : 64 * (u / 64) + u % 64 ≡ u = omega arith in
        omega (
          arith,
          ap f place,
          greatest_part 64 (λ (v : ℕ). f (64 * (u / 64) + v)) (u % 64) (omega arith),
          greatest_part words in_word (u / 64) (omega arith),
        ))

-- the greatest of the greater of two is the greater of both greatest
pub greatest_of_both : (n : ℕ) (f g : ℕ → ℕ) → greatest_to n (λ (v : ℕ). max (f v) (g v)) ≡ max (greatest_to n f) (greatest_to n g)
unfolding greatest_to
greatest_of_both zero f g = refl
greatest_of_both (suc n) f g = omega (arith, greatest_of_both n (λ (v : ℕ). f (suc v)) (λ (v : ℕ). g (suc v)))
