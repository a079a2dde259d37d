-- Sums and first places over positions: over two ranges end to end, what `first_to` is in plain words, and that `count_ones` and `trailing_zeros`
-- of a word are the sum and the first place of its bits. Assumes nothing.
use mathlib.Core.Path.{◌≡◌, refl, sym, ap, ◌∙◌}
use mathlib.Core.Logic.{◌↔◌}
use Prim.Native.Nat.{ℕ, zero, suc, ◌+◌, ◌/◌, ◌%◌, ◌^◌, ◌≤◌, ◌<◌}
use native.Mathlib.Nat.{suc-add, zero-add, add_assoc, not-suc-le-zero, le_of_suc-le-suc, lt_of_not-le, le_antisymm}
use native.Mathlib.Omega.{arith}
use lib.Arith.{lt-one}
use lib.Count.{ones, under, count_trailing_zeros, ones_step}
use Rattle.words.specs.Bits.{bit, sum_to, first_or, first_to}
use Rattle.words.proofs.Laws.{bit-here, bit-suc, half_lt}

-- ---- sums

pub sum_cong : (n : ℕ) (f g : ℕ → ℕ) → ((v : ℕ) → v < n → f v ≡ g v) → sum_to n f ≡ sum_to n g
unfolding sum_to
sum_cong zero f g e = refl
sum_cong (suc n) f g e =
    omega (arith, e 0 (omega arith), sum_cong n (λ (u : ℕ). f (suc u)) (λ (u : ℕ). g (suc u)) (λ u k. e (suc u) (omega arith)))

pub sum-add : (m n : ℕ) (f : ℕ → ℕ) → sum_to (m + n) f ≡ sum_to m f + sum_to n (λ (v : ℕ). f (m + v))
unfolding sum_to
sum-add zero n f = simp zero-add
sum-add (suc m) n f = simp (suc-add, sum-add m n (λ (v : ℕ). f (suc v)), add_assoc)

-- positions at which f is 0 add nothing
sum-none : (n : ℕ) (f : ℕ → ℕ) → ((v : ℕ) → v < n → f v ≡ 0) → sum_to n f ≡ 0
unfolding sum_to
sum-none zero f z = refl
sum-none (suc n) f z = omega (arith, z 0 (omega arith), sum-none n (λ (u : ℕ). f (suc u)) (λ u k. z (suc u) (omega arith)))

pub sum_past : (m n : ℕ) (f : ℕ → ℕ) → ((v : ℕ) → v < n → f (m + v) ≡ 0) → sum_to (m + n) f ≡ sum_to m f
sum_past m n f z = omega (arith, sum-add m n f, sum-none n (λ (v : ℕ). f (m + v)) z)

pub sum_snoc : (n : ℕ) (f : ℕ → ℕ) → sum_to (suc n) f ≡ sum_to n f + f n
unfolding sum_to
sum_snoc zero f = omega arith
sum_snoc (suc n) f = omega (arith, sum_snoc n (λ (v : ℕ). f (suc v)))

-- the number of set bits is the sum of the bits
pub ones-sum : (n w : ℕ) → w < 2 ^ n → ones w ≡ sum_to n (bit w)
unfolding sum_to ones
ones-sum zero w h = ap ones (lt-one h)
ones-sum (suc n) w h =
    omega (
      arith,
      ones_step w,
      bit-here w,
      ones-sum n (w / 2) (half_lt n w h),
      sum_cong n (λ (v : ℕ). bit w (suc v)) (bit (w / 2)) (λ v k. bit-suc w v),
    )

-- ---- first places

pub first_cong : (n : ℕ) (f g : ℕ → ℕ) → ((v : ℕ) → v < n → f v ≡ g v) → first_to n f ≡ first_to n g
unfolding first_to
first_cong zero f g e = refl
first_cong (suc n) f g e =
    rw (e 0 (omega arith), first_cong n (λ (u : ℕ). f (suc u)) (λ (u : ℕ). g (suc u)) (λ u k. e (suc u) (omega arith)))

-- v is the first position below n at which f is not 0
pub record FirstAt (n : ℕ) (f : ℕ → ℕ) (v : ℕ) : Type 0 where
  pub within : v < n
  pub here : f v ≡ 0 → ⊥
  pub before : (u : ℕ) → u < v → f u ≡ 0

-- r says what is first: 0 exactly where f is 0 at every position below n, and one more than the first position otherwise
pub record First (n : ℕ) (f : ℕ → ℕ) (r : ℕ) : Type 0 where
  pub none : (r ≡ 0) ↔ ((v : ℕ) → v < n → f v ≡ 0)
  pub some : (v : ℕ) → r ≡ suc v → FirstAt n f v

-- 0 at position 0 and at the k positions after it
zero-below : (k : ℕ) (f : ℕ → ℕ) → f 0 ≡ 0 → ((v : ℕ) → v < k → f (suc v) ≡ 0) → (v : ℕ) → v < suc k → f v ≡ 0
zero-below k f e rest zero l = e
zero-below k f e rest (suc v) l = rest v (omega arith)

-- the positions from 1 on, with position 0 in front
first_step : (n : ℕ) (f : ℕ → ℕ) (b r : ℕ) → f 0 ≡ b → First n (λ (v : ℕ). f (suc v)) r → First (suc n) f (first_or b r)
first_step n f (suc b) r e t = record {
  none = (λ z. absurd (omega arith), λ all. omega (arith, all 0 (omega arith)));
  some = λ v s.
      let here : v ≡ 0 = omega arith in
      rw here (record { within = omega arith; here = λ q. omega arith; before = λ u l. absurd (not-suc-le-zero l) });
}
first_step n f zero zero e t = record {
  none = (λ z. zero-below n f e (t.none.0 refl), λ all. refl);
  some = λ v s. absurd (omega arith);
}
first_step n f zero (suc r) e t = record {
  none = (λ z. absurd (omega arith), λ all. absurd (omega (arith, t.none.1 (λ v l. all (suc v) (omega arith)))));
  some = λ v s.
      let later : v ≡ suc r = omega arith in
      let p = t.some r refl in
      rw later (record { within = omega (arith, p.within); here = p.here; before = zero-below r f e p.before });
}

pub first_mark_meets : (n : ℕ) (f : ℕ → ℕ) → First n f (first_to n f)
unfolding first_to
first_mark_meets zero f = record {
  none = (λ z v l. absurd (not-suc-le-zero l), λ all. refl);
  some = λ v s. absurd (omega arith);
}
first_mark_meets (suc n) f = first_step n f (f 0) (first_to n (λ (v : ℕ). f (suc v))) refl (first_mark_meets n (λ (v : ℕ). f (suc v)))

-- no other answer is right
none_before : (n : ℕ) (f : ℕ → ℕ) (u v : ℕ) → FirstAt n f u → FirstAt n f v → v ≤ u
none_before n f u v a b = le_of_suc-le-suc (lt_of_not-le (λ (l : u < v). a.here (b.before u l)))

pub first-only : (n : ℕ) (f : ℕ → ℕ) (r s : ℕ) → First n f r → First n f s → r ≡ s
first-only n f zero s a b = sym (b.none.1 (a.none.0 refl))
first-only n f (suc u) zero a b = a.none.1 (b.none.0 refl)
first-only n f (suc u) (suc v) a b =
    let x = a.some u refl in
    let y = b.some v refl in
    ap suc (le_antisymm (none_before n f v u y x) (none_before n f u v x y))

-- so the first position is known by what it is
pub first_at : (n : ℕ) (f : ℕ → ℕ) (v : ℕ) → FirstAt n f v → first_to n f ≡ suc v
first_at n f v a = first-only n f (first_to n f) (suc v) (first_mark_meets n f) (record {
  none = (λ z. absurd (omega arith), λ all. absurd (a.here (all v a.within)));
  some = λ u e. let same : u ≡ v = omega arith in rw same a;
})

-- ---- ranges end to end

-- a first place below m is first below m + n too
pub first-add-found : (m n : ℕ) (f : ℕ → ℕ) (v : ℕ) → first_to m f ≡ suc v → first_to (m + n) f ≡ suc v
first-add-found m n f v e =
    let a = (first_mark_meets m f).some v e in
    first_at (m + n) f v (record { within = omega (arith, a.within); here = a.here; before = a.before })

-- a first place, moved up by m
abbrev pub first_from : ℕ → ℕ → ℕ
first_from m zero = 0
first_from m (suc v) = suc (m + v)

from-none : (r : ℕ) → r ≡ first_from zero r
from-none zero = refl
from-none (suc v) = rw zero-add

from_more : (m r : ℕ) → first_or zero (first_from m r) ≡ first_from (suc m) r
from_more m zero = refl
from_more m (suc v) = rw suc-add

or_none : (b later : ℕ) → first_or b later ≡ 0 → (b ≡ 0) × (later ≡ 0)
or_none zero zero e = (refl, refl)
or_none zero (suc v) e = absurd (omega arith)
or_none (suc b) later e = absurd (omega arith)

-- where there is none below m, it is that of the n positions after, if they have one
pub first-add-none : (m n : ℕ) (f : ℕ → ℕ) → first_to m f ≡ 0 → first_to (m + n) f ≡ first_from m (first_to n (λ (v : ℕ). f (m + v)))
unfolding first_to
first-add-none zero n f e = simp zero-add (from-none (first_to n f))
first-add-none (suc m) n f e =
    let g : ℕ → ℕ = λ (v : ℕ). f (suc v) in
    let z = or_none (f 0) (first_to m g) e in
    simp (suc-add, z.0, first-add-none m n g z.1) (from_more m (first_to n (λ (v : ℕ). f (suc (m + v)))))

-- positions at which f is 0 change nothing
pub first_past : (m n : ℕ) (f : ℕ → ℕ) → ((v : ℕ) → v < n → f (m + v) ≡ 0) → first_to (m + n) f ≡ first_to m f
first_past m n f z = go (first_to m f) refl
  where
    go : (r : ℕ) → first_to m f ≡ r → first_to (m + n) f ≡ r
    go zero e = first-add-none m n f e ∙ ap (first_from m) ((first_mark_meets n (λ (v : ℕ). f (m + v))).none.1 z)
    go (suc v) e = first-add-found m n f v e

-- ---- the first set bit of a word

under_first : (d t later : ℕ) → (d ≡ 0 → suc t ≡ later) → suc (under d t) ≡ first_or d later
under_first zero t later e = rw (← (e refl))
under_first (suc d) t later e = refl

pub trailing_first : (n w : ℕ) → w < 2 ^ n → (w ≡ 0 → ⊥) → suc (count_trailing_zeros n w) ≡ first_to n (bit w)
unfolding first_to count_trailing_zeros
trailing_first zero w h nz = absurd (nz (lt-one h))
trailing_first (suc n) w h nz =
    rw (bit-here, first_cong n (λ (v : ℕ). bit w (suc v)) (bit (w / 2)) (λ v k. bit-suc w v))
    (under_first (w % 2) (count_trailing_zeros n (w / 2)) (first_to n (bit (w / 2)))
    (λ e. trailing_first n (w / 2) (half_lt n w h) (λ z. nz (omega arith))))
