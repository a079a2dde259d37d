-- Sums: one that is not 0 has a part that is not 0; and ones that go one to one into others are no more than those. Assumes nothing.
use Prim.Native.Nat.{ℕ, zero, suc, ◌+◌, ◌<◌, ◌≤◌}
use mathlib.Core.Path.{◌≡◌, refl, ap, ◌∙◌}
use native.Mathlib.Decide.{dec_lt, ℕ_discrete}
use native.Mathlib.Omega.{arith}
use Rattle.words.specs.Bits.{sum_to}

-- ---- sums that are not 0

pub sum_part : (n : ℕ) (f : ℕ → ℕ) (v : ℕ) → v < n → f v ≤ sum_to n f
unfolding sum_to
sum_part zero f v h = absurd (omega arith)
sum_part (suc n) f zero h = omega arith
sum_part (suc n) f (suc v) h = omega (arith, sum_part n (λ (u : ℕ). f (suc u)) v (omega arith))

pub sum-some : (n : ℕ) (f : ℕ → ℕ) → 0 < sum_to n f → (v : ℕ) × (v < n) × (0 < f v)
unfolding sum_to
sum-some zero f h = absurd (omega arith)
sum-some (suc n) f h = go (dec_lt 0 (f 0)) (sum-some n (λ (u : ℕ). f (suc u)))
  where
    rest : ℕ
    rest = sum_to n (λ (u : ℕ). f (suc u))

    go : Dec (0 < f 0) → (0 < rest → (v : ℕ) × (v < n) × (0 < f (suc v))) → (v : ℕ) × (v < suc n) × (0 < f v)
    go (yes p) later = (0, omega arith, p)
    go (no p) later = let found = later (omega arith) in (suc found.0, omega (arith, found.1), found.2)

-- ---- sums of ones and zeros

-- g, but 0 at j
without : (ℕ → ℕ) → ℕ → ℕ → ℕ
without g zero zero = 0
without g zero (suc k) = g (suc k)
without g (suc j) zero = g 0
without g (suc j) (suc k) = without (λ (u : ℕ). g (suc u)) j k

without_other : (g : ℕ → ℕ) (j k : ℕ) → (k ≡ j → ⊥) → without g j k ≡ g k
unfolding without
without_other g zero zero h = absurd (h refl)
without_other g zero (suc k) h = refl
without_other g (suc j) zero h = refl
without_other g (suc j) (suc k) h = without_other (λ (u : ℕ). g (suc u)) j k (λ e. h (ap suc e))

sum-without : (n : ℕ) (g : ℕ → ℕ) (j : ℕ) → j < n → sum_to n g ≡ g j + sum_to n (without g j)
unfolding sum_to without
sum-without zero g j h = absurd (omega arith)
sum-without (suc n) g zero h = omega arith
sum-without (suc n) g (suc j) h = omega (arith, sum-without n (λ (u : ℕ). g (suc u)) j (omega arith))

-- where each place of f that has a 1 goes to a place of g that has one, and no two go to the same, f has no more of them
pub sum_into : (m n : ℕ) (f g : ℕ → ℕ) (To : ℕ → ℕ → Type 0) → ((i : ℕ) → f i ≤ 1)
    → ((i : ℕ) → i < m → f i ≡ 1 → (j : ℕ) × (j < n) × (g j ≡ 1) × To i j)
    → ((i k j : ℕ) → To i j → To k j → i ≡ k)
    → sum_to m f ≤ sum_to n g
unfolding sum_to
sum_into zero n f g To few goes one = omega arith
sum_into (suc m) n f g To few goes one =
    go (ℕ_discrete (f 0) 1) (λ h there. sum_into m n (λ (i : ℕ). f (suc i)) h (λ (i j : ℕ). To (suc i) j) (λ i. few (suc i)) there others_one)
  where
    rest : ℕ
    rest = sum_to m (λ (i : ℕ). f (suc i))

    Goes : (ℕ → ℕ) → Type 0
    Goes h = (i : ℕ) → i < m → f (suc i) ≡ 1 → (j : ℕ) × (j < n) × (h j ≡ 1) × To (suc i) j

    others_one : (i k j : ℕ) → To (suc i) j → To (suc k) j → i ≡ k
    others_one i k j p q = omega (arith, one (suc i) (suc k) j p q)

    -- the place to which place 0 went is taken
    taken : (j : ℕ) → To 0 j → Goes (without g j)
    taken j p i h e =
        let next = goes (suc i) (omega arith) e in
        let other : next.0 ≡ j → ⊥ = λ same. omega (arith, one (suc i) 0 j (rw same at next.3) p) in
        (next.0, next.1, without_other g j next.0 other ∙ next.2, next.3)

    go : Dec (f 0 ≡ 1) → ((h : ℕ → ℕ) → Goes h → rest ≤ sum_to n h) → f 0 + rest ≤ sum_to n g
    go (no e) later = omega (arith, few 0, later g (λ i h p. goes (suc i) (omega arith) p))
    go (yes e) later =
        let first = goes 0 (omega arith) e in
        omega (arith, first.2, sum-without n g first.0 first.1, later (without g first.0) (taken first.0 first.3))

pub sum_ones : (n : ℕ) → sum_to n (λ (i : ℕ). 1) ≡ n
unfolding sum_to
sum_ones zero = refl
sum_ones (suc n) = omega (arith, sum_ones n)
