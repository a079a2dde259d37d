-- The channel of an edge by the position of its ends: an edge that is not refused is of exactly one channel. Assumes nothing.
use Prim.Native.Nat.{ℕ, ◌≤◌}
use mathlib.Core.Path.{◌≡◌, refl, sym, subst, ◌∙◌}
use mathlib.Core.Bool.{Bool, true, false, ◌||◌, not}
use native.Mathlib.Omega.{arith}
use borrow.Author.Tests.{eqb-true, eqb-false}
use lib.Dec.{T, leb, eqb, leb→le}
use Rattle.switch.specs.Conduction.{between, p_ends, n_end, n_ends, bad_ends}
use Rattle.switch.specs.Statements.{OneChannel}
use Rattle.switch.proofs.Paths.{both}

pub in_between : (low high m : ℕ) → T (between low high m) → (low ≤ m) × (m ≤ high)
unfolding between
in_between low high m t =
    let parts = both (leb low m) (leb m high) t in (leb→le low m parts.0, leb→le m high parts.1)

-- no node but o is on the p side and on the n side
on_both : (h o m : ℕ) → T (between 1 o m) → T (n_end h o m) → m ≡ o
unfolding n_end
on_both h o m p n = at (eqb m 0) refl n
  where
    at : (b : Bool) → eqb m 0 ≡ b → T (b || between o h m) → m ≡ o
    at true e t = absurd (omega (arith, eqb-true m 0 e, (in_between 1 o m p).0))
    at false e t = omega (arith, (in_between 1 o m p).1, (in_between o h m t).0)

equal_ends : (h o a b : ℕ) → T (p_ends o a b) → T (n_ends h o a b) → a ≡ b
unfolding p_ends n_ends
equal_ends h o a b p n =
    let ps = both (between 1 o a) (between 1 o b) p in
    let ns = both (n_end h o a) (n_end h o b) n in
    on_both h o a ps.0 ns.0 ∙ sym (on_both h o b ps.1 ns.1)

pub one-channel : OneChannel
unfolding bad_ends
one-channel h o a b good = at (eqb a b) (p_ends o a b) (n_ends h o a b) refl refl refl good
  where
    at : (q p n : Bool) → eqb a b ≡ q → p_ends o a b ≡ p → n_ends h o a b ≡ n → (q || not (p || n)) ≡ false → p ≡ not n
    at q true false eq ep en g = refl
    at q false true eq ep en g = refl
    at true true true eq ep en g = absurd (subst T g tt)
    at true false false eq ep en g = absurd (subst T g tt)
    at false false false eq ep en g = absurd (subst T g tt)
    at false true true eq ep en g = absurd (eqb-false a b eq (equal_ends h o a b (subst T (sym ep) tt) (subst T (sym en) tt)))
