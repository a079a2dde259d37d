-- Proves SharedShortsAreAtARail. A node is a rail or a wire of its own instance; a label is a wire of no instance or of an earlier one. So where neither end
-- is a rail, each of two instances would be earlier than the other.
use Prim.Native.Nat.{ℕ, ◌<◌}
use mathlib.Core.Path.{◌≡◌, refl, sym, subst, ◌∙◌}
use mathlib.Core.Bool.{Bool, true, false, cond}
use mathlib.Core.Logic.{◌⊎◌, inl, inr}
use native.Mathlib.Omega.{arith}
use lib.Dec.{eqb}
use lib.ListN.{get_or}
use Rattle.switch.specs.Conduction.{ground, supply}
use Rattle.switch.specs.Bridges.{Bridge, nodes, input}
use Rattle.circuit.specs.Circuit.{Circuit, Reference, primary, output_of}
use Rattle.circuit.specs.Laws.{CircuitGood}
use Rattle.circuit.proofs.CircuitLaws.{accepted-is-good}
use Rattle.grading.specs.Rows.{Row}
use Rattle.grading.specs.Wires.{Wire, ground_wire, supply_wire, output_wire, inner_wire, node_wire, reference_wire, label_wire}
use Rattle.grading.specs.Wires.{one_end, other_end, wire_at, wire_of}
use Rattle.grading.specs.Statements.{RowOf}
use Rattle.demands.specs.Two.{row_at, OneClass}
use Rattle.demands.specs.OneWire.{IsRail, SharedShortsAreAtARail}
use Rattle.demands.proofs.RowFaults.{row_of_lem}
use Rattle.demands.proofs.WiresBefore.{Earlier, label_earlier}

-- the output of an instance, or an inner node of it
abbrev WireOf : ℕ → Wire → Type 0
WireOf n w = (w ≡ output_wire n) ⊎ ((m : ℕ) × (w ≡ inner_wire n m))

one-instance : (n k : ℕ) (w : Wire) → WireOf n w → WireOf k w → n ≡ k
one-instance n k w (inl p) (inl q) = let e : output_wire n ≡ output_wire k = sym p ∙ q in cc
one-instance n k w (inl p) (inr (m, q)) = let e : output_wire n ≡ inner_wire k m = sym p ∙ q in let no : ◌≡◌ {A = ℕ} 0 1 = cc in absurd (omega arith)
one-instance n k w (inr (m, p)) (inl q) = let e : inner_wire n m ≡ output_wire k = sym p ∙ q in let no : ◌≡◌ {A = ℕ} 0 1 = cc in absurd (omega arith)
one-instance n k w (inr (m, p)) (inr (l, q)) = let e : inner_wire n m ≡ inner_wire k l = sym p ∙ q in cc

node_is : (n o m : ℕ) → IsRail (node_wire n o m) ⊎ WireOf n (node_wire n o m)
unfolding node_wire
node_is n o m = go (eqb m ground) (eqb m supply) (eqb m o)
  where
    go : (x y z : Bool) → let w = cond x ground_wire (cond y supply_wire (cond z (output_wire n) (inner_wire n m))) in IsRail w ⊎ WireOf n w
    go true y z = inl (inl refl)
    go false true z = inl (inr refl)
    go false false true = inr (inl refl)
    go false false false = inr (inr (m, refl))

-- a wire of no instance, or of one before
abbrev Before : ℕ → Wire → Type 0
Before n w = (k : ℕ) → WireOf k w → k < n

reference-before : (n : ℕ) (r : Reference) → Earlier n r → Before n (reference_wire r)
unfolding reference_wire
reference-before n (primary i) early k (inl e) = let no : ◌≡◌ {A = ℕ} 0 1 = cc in absurd (omega arith)
reference-before n (primary i) early k (inr (m, e)) = let no : ◌≡◌ {A = ℕ} 0 1 = cc in absurd (omega arith)
reference-before n (output_of i) early k (inl e) = let same : i ≡ k = cc in omega (arith, early i refl)
reference-before n (output_of i) early k (inr (m, e)) = let no : ◌≡◌ {A = ℕ} 0 1 = cc in absurd (omega arith)

module _ (c : Circuit) (good : CircuitGood c) (row : Row) (is_row : RowOf c row) where
  one_is : IsRail (wire_of row one_end) ⊎ WireOf row.number (wire_of row one_end)
  unfolding wire_at
  one_is = go row.bridge
    where
      go : (b : Bridge) → IsRail (wire_at row b one_end) ⊎ WireOf row.number (wire_at row b one_end)
      go (nodes a b) = node_is row.number row.type.output a
      go (input m l) = node_is row.number row.type.output m

  other_is : (IsRail (wire_of row other_end) ⊎ WireOf row.number (wire_of row other_end)) ⊎ Before row.number (wire_of row other_end)
  unfolding wire_at label_wire
  other_is = go row.bridge
    where
      go : (b : Bridge) → (IsRail (wire_at row b other_end) ⊎ WireOf row.number (wire_at row b other_end)) ⊎ Before row.number (wire_at row b other_end)
      go (nodes a b) = inl (node_is row.number row.type.output b)
      go (input m l) = inr (reference-before row.number (get_or row.instance.references l (primary 0)) (label_earlier c good row is_row l))

-- two wires of rows of two instances: v is of a node
module _ (n k : ℕ) (apart : n ≡ k → ⊥) (v x : Wire) where
  straight : IsRail v ⊎ WireOf n v → IsRail x ⊎ WireOf k x → v ≡ x → IsRail v
  straight (inl p) q e = p
  straight (inr p) (inl q) e = subst IsRail (sym e) q
  straight (inr p) (inr q) e = absurd (apart (one-instance n k x (subst (WireOf n) e p) q))

  -- where it is the second end of the other row, that row's instance comes later
  behind : WireOf n v → (IsRail x ⊎ WireOf k x) ⊎ Before k x → v ≡ x → IsRail v ⊎ (n < k)
  behind p (inl (inl q)) e = inl (subst IsRail (sym e) q)
  behind p (inl (inr q)) e = absurd (apart (one-instance n k x (subst (WireOf n) e p) q))
  behind p (inr q) e = inr (q n (subst (WireOf n) e p))

rail-at : (n k : ℕ) → (n ≡ k → ⊥) → (v w x y : Wire) → IsRail v ⊎ WireOf n v → (IsRail w ⊎ WireOf n w) ⊎ Before n w
    → IsRail x ⊎ WireOf k x → (IsRail y ⊎ WireOf k y) ⊎ Before k y
    → ((v ≡ x) × (w ≡ y)) ⊎ ((v ≡ y) × (w ≡ x)) → IsRail v ⊎ IsRail w
rail-at n k apart v w x y a b c d (inl e) = inl (straight n k apart v x a c e.0)
rail-at n k apart v w x y (inl a) b c d (inr e) = inl a
rail-at n k apart v w x y (inr a) b (inl c) d (inr e) = inr (subst IsRail (sym e.1) c)
rail-at n k apart v w x y (inr a) b (inr c) d (inr e) =
    both (behind n k apart v y a d e.0) (behind k n (λ p. apart (sym p)) x w c b (sym e.1))
  where
    both : IsRail v ⊎ (n < k) → IsRail x ⊎ (k < n) → IsRail v ⊎ IsRail w
    both (inl p) q = inl p
    both (inr p) (inl q) = inr (subst IsRail (sym e.1) q)
    both (inr p) (inr q) = absurd (omega arith)

pub shared_shorts_are_at_a_rail : SharedShortsAreAtARail
unfolding OneClass
shared_shorts_are_at_a_rail file c accepts r s h k apart one =
    let good = accepted-is-good true file c accepts in
    let first = row_at c r in
    let second = row_at c s in
    let p : RowOf c first = row_of_lem c r h in
    let q : RowOf c second = row_of_lem c s k in
    rail-at first.number second.number apart _ _ _ _
    (one_is c good first p) (other_is c good first p) (one_is c good second q) (other_is c good second q) one
