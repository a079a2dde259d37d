-- The laws of `between`: what it says of a number in the range, below it and above it. What it tells is `in_between` of the crate `switch`.
use Prim.Native.Nat.{ℕ, ◌<◌, ◌≤◌}
use mathlib.Core.Path.{◌≡◌, refl, ◌∙◌}
use mathlib.Core.Bool.{Bool, true, false, ◌&&◌}
use native.Mathlib.Omega.{arith}
use borrow.Author.Tests.{le-leb, lt-leb}
use lib.Dec.{leb}
use Rattle.std.specs.Prelude.{Some}
use Rattle.std.specs.Ordering.{nat_cmp, partial_le}
use Rattle.std.specs.Range.{range_inclusive_start, range_inclusive_end, range_inclusive_exhausted, range_inclusive_contains}
use Rattle.std.specs.declared.ops.RangeInclusive.{RangeInclusive}
use Rattle.std.proofs.lemmas.Bool.Decides.{nat_tests}
use Rattle.switch.specs.Conduction.{between}

module _ (low high m : ℕ) where
  pub between_in : low ≤ m → m ≤ high → between low high m ≡ true
  unfolding between
  between_in p q = rw (le-leb low m p, le-leb m high q)

  pub between_below : m < low → between low high m ≡ false
  unfolding between
  between_below p = rw (lt-leb low m p)

  pub between_above : high < m → between low high m ≡ false
  unfolding between
  between_above p = rw (lt-leb m high p) (go (leb low m))
    where
      go : (b : Bool) → b && false ≡ false
      go true = refl
      go false = refl

-- ---- what `contains` of a range tells

le-told : (a b : ℕ) → partial_le (λ x y. Some (nat_cmp x y)) a b ≡ leb a b
le-told a b = grind (arith, nat_tests)

pub contains-told : {r : Bool} {low high : ℕ} (s : RangeInclusive ℕ) (m : ℕ)
    → range_inclusive_start s ≡ low → range_inclusive_end s ≡ high → range_inclusive_exhausted s ≡ false
    → r ≡ range_inclusive_contains (λ x y. Some (nat_cmp x y)) s m → r ≡ between low high m
unfolding between
contains-told s m first last whole is = is ∙ rw (first, last, whole, le-told, le-told) refl
