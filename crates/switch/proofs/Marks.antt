-- (a) A closed bridge makes a path from supply to ground exactly when its ends say so. A bridge is one link more, so `one_more_lem` gives the ways through
-- it, and those that do not use it, or use it from a rail back to a rail, would join supply to ground without it: the rails are apart. Assumes nothing.
use Prim.Native.Nat.{ℕ}
use native.Mathlib.Omega.{arith}
use mathlib.Core.Path.{◌≡◌, refl, sym}
use mathlib.Core.Logic.{◌⊎◌, inl, inr}
use mathlib.Core.List.{List, ◌++◌}
use Rattle.switch.specs.Conduction.{Value, at0, at1, at_x, Link, Joined, here, ground, supply}
use Rattle.switch.specs.Modules.{links_of}
use Rattle.switch.specs.Bridges.{nodes, input, to_label, closing, Marked, MarkedByEnds}
use Rattle.switch.specs.Statements.{ClosedPathIsEnds}
use Rattle.switch.proofs.Paths.{Linked, turned, one_more_lem}
use Rattle.switch.proofs.Apart.{rails-apart}

pub at1≢at0 : at1 ≡ at0 → ⊥
at1≢at0 e = let z : ◌≡◌ {A = ℕ} 0 1 = cc in omega arith

pub at_x≢at0 : at_x ≡ at0 → ⊥
at_x≢at0 e = let z : ◌≡◌ {A = ℕ} 0 1 = cc in omega arith

pub at_x≢at1 : at_x ≡ at1 → ⊥
at_x≢at1 e = let z : ◌≡◌ {A = ℕ} 0 1 = cc in omega arith

module _ (ws : List Link) (apart : Joined ws supply ground → ⊥) where
  by_ends : (a b : ℕ) → Linked ws a b supply ground → (Joined ws a supply × Joined ws b ground) ⊎ (Joined ws a ground × Joined ws b supply)
  by_ends a b (inl p) = absurd (apart p)
  by_ends a b (inr (inl (p, r))) = inl (turned p, r)
  by_ends a b (inr (inr (p, r))) = inr (r, turned p)

  of_ends : (a b : ℕ) → (Joined ws a supply × Joined ws b ground) ⊎ (Joined ws a ground × Joined ws b supply) → Linked ws a b supply ground
  of_ends a b (inl (p, r)) = inr (inl (turned p, r))
  of_ends a b (inr (p, r)) = inr (inr (turned r, p))

  by_one : (m : ℕ) → Linked ws m supply supply ground → Joined ws m ground
  by_one m (inl p) = absurd (apart p)
  by_one m (inr (inl (p, r))) = absurd (apart r)
  by_one m (inr (inr (p, r))) = r

  by_zero : (m : ℕ) → Linked ws m ground supply ground → Joined ws m supply
  by_zero m (inl p) = absurd (apart p)
  by_zero m (inr (inl (p, r))) = turned p
  by_zero m (inr (inr (p, r))) = absurd (apart p)

  by_label : (m : ℕ) (v : Value) → Joined (to_label m v ++ ws) supply ground → ((v ≡ at1) × Joined ws m ground) ⊎ ((v ≡ at0) × Joined ws m supply)
  unfolding to_label
  by_label m at1 p = inl (refl, by_one m ((one_more_lem ws m supply supply ground).0 p))
  by_label m at0 p = inr (refl, by_zero m ((one_more_lem ws m ground supply ground).0 p))
  by_label m at_x p = absurd (apart p)

  of_label : (m : ℕ) (v : Value) → ((v ≡ at1) × Joined ws m ground) ⊎ ((v ≡ at0) × Joined ws m supply) → Joined (to_label m v ++ ws) supply ground
  unfolding to_label
  of_label m at1 (inl (e, p)) = (one_more_lem ws m supply supply ground).1 (inr (inr (here, p)))
  of_label m at1 (inr (e, p)) = absurd (at1≢at0 e)
  of_label m at0 (inl (e, p)) = absurd (at1≢at0 (sym e))
  of_label m at0 (inr (e, p)) = (one_more_lem ws m ground supply ground).1 (inr (inl (turned p, here)))
  of_label m at_x (inl (e, p)) = absurd (at_x≢at1 e)
  of_label m at_x (inr (e, p)) = absurd (at_x≢at0 e)

pub closed_path_is_ends : ClosedPathIsEnds
unfolding Marked MarkedByEnds closing
closed_path_is_ends t acc values (nodes a b) =
    let ws : List Link = links_of t values in
    let apart : Joined ws supply ground → ⊥ = rails-apart.rails t acc values in
    let closed = one_more_lem ws a b supply ground in
    (λ p. by_ends ws apart a b (closed.0 p), λ ends. closed.1 (of_ends ws apart a b ends))
closed_path_is_ends t acc values (input m l) =
    let ws : List Link = links_of t values in
    let apart : Joined ws supply ground → ⊥ = rails-apart.rails t acc values in
    (by_label ws apart m (values l), of_label ws apart m (values l))
