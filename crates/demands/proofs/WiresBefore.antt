-- Proves EndsAreTwoWires and InOneInstanceAsBefore. In one instance a node is known by its wire, and no node has the wire of a label, since a label
-- refers to a primary input or to an earlier instance.
use Prim.Native.Nat.{ℕ, suc, ◌-◌, ◌<◌}
use mathlib.Core.Path.{◌≡◌, refl, sym, ap, ◌∙◌}
use mathlib.Core.Bool.{Bool, true, false, cond, not, ◌&&◌}
use mathlib.Core.Logic.{◌⊎◌, inl, inr, ⊎_elim, ◌↔◌}
use native.Mathlib.Omega.{arith}
use borrow.Author.Tests.{eqb-true, eq-eqb}
use lib.Dec.{T, eqb, leb}
use lib.ListN.{length, get_or}
use Rattle.switch.specs.Conduction.{ground, supply}
use Rattle.switch.specs.Bridges.{Bridge, nodes, input}
use Rattle.switch.proofs.Channels.{in_between}
use Rattle.switch.proofs.Paths.{both}
use Rattle.circuit.specs.Circuit.{Circuit, Instance, Reference, primary, output_of, type_of_instance, faults_of}
use Rattle.circuit.specs.Numbers.{reference_good}
use Rattle.circuit.specs.Table.{bridge_good}
use Rattle.circuit.specs.Laws.{CircuitGood}
use Rattle.circuit.proofs.CircuitLaws.{accepted-is-good}
use Rattle.circuit.proofs.Tested.{get_or-any}
use Rattle.grading.specs.Rows.{Row, rows_of}
use Rattle.grading.specs.Wires.{Wire, ground_wire, supply_wire, input_wire, output_wire, inner_wire, node_wire, reference_wire, label_wire}
use Rattle.grading.specs.Wires.{End, one_end, other_end, wire_at, wire_of}
use Rattle.grading.specs.Statements.{RowOf}
use Rattle.grading.proofs.Everywhere.{Every}
use Rattle.grading.proofs.FaultRanges.{faults_every}
use Rattle.grading.proofs.RowsPlaced.{row_reference}
use Rattle.demands.specs.Two.{row_at, instance_of, OneClass}
use Rattle.demands.specs.OneWire.{EqualBridges, EndsAreTwoWires, InOneInstanceAsBefore}
use Rattle.demands.proofs.RowFaults.{row_of_lem, row_number, row_instance, row_type, rows_from_lem, label-named}
use Rattle.demands.proofs.WireTies.{no_output}

-- ---- wires of one instance

-- the node of an instance with output o that has a wire
node_of : ℕ → Wire → ℕ
node_of o ground_wire = ground
node_of o supply_wire = supply
node_of o (input_wire n) = 0
node_of o (output_wire n) = o
node_of o (inner_wire n m) = m

node-back : (n o m : ℕ) → node_of o (node_wire n o m) ≡ m
unfolding node_of node_wire
node-back n o m = go (eqb m ground) refl (eqb m supply) refl (eqb m o) refl
  where
    go : (x : Bool) → eqb m ground ≡ x → (y : Bool) → eqb m supply ≡ y → (z : Bool) → eqb m o ≡ z
        → node_of o (cond x ground_wire (cond y supply_wire (cond z (output_wire n) (inner_wire n m)))) ≡ m
    go true p y q z r = sym (eqb-true m ground p)
    go false p true q z r = sym (eqb-true m supply q)
    go false p false q true r = sym (eqb-true m o r)
    go false p false q false r = refl

same-node : (n o a b : ℕ) → node_wire n o a ≡ node_wire n o b → a ≡ b
same-node n o a b e = sym (node-back n o a) ∙ ap (node_of o) e ∙ node-back n o b

-- a reference to an input or to an earlier instance
abbrev pub Earlier : ℕ → Reference → Type 0
Earlier n r = (i : ℕ) → r ≡ output_of i → i < n

-- it has no node's wire
not-a-node : (n o m : ℕ) (r : Reference) → Earlier n r → node_wire n o m ≡ reference_wire r → ⊥
unfolding node_wire reference_wire
not-a-node n o m r early = go (eqb m ground) (eqb m supply) (eqb m o) r early
  where
    go : (x y z : Bool) (r : Reference) → Earlier n r
        → cond x ground_wire (cond y supply_wire (cond z (output_wire n) (inner_wire n m))) ≡ reference_wire r → ⊥
    go true y z (primary i) early e = let no : ◌≡◌ {A = ℕ} 0 1 = cc in omega arith
    go true y z (output_of i) early e = let no : ◌≡◌ {A = ℕ} 0 1 = cc in omega arith
    go false true z (primary i) early e = let no : ◌≡◌ {A = ℕ} 0 1 = cc in omega arith
    go false true z (output_of i) early e = let no : ◌≡◌ {A = ℕ} 0 1 = cc in omega arith
    go false false true (primary i) early e = let no : ◌≡◌ {A = ℕ} 0 1 = cc in omega arith
    go false false true (output_of i) early e = let same : n ≡ i = cc in omega (arith, early i refl)
    go false false false (primary i) early e = let no : ◌≡◌ {A = ℕ} 0 1 = cc in omega arith
    go false false false (output_of i) early e = let no : ◌≡◌ {A = ℕ} 0 1 = cc in omega arith

same-reference : (r s : Reference) → reference_wire r ≡ reference_wire s → r ≡ s
unfolding reference_wire
same-reference (primary n) (primary m) e = let same : n ≡ m = cc in cc
same-reference (primary n) (output_of j) e = let no : ◌≡◌ {A = ℕ} 0 1 = cc in absurd (omega arith)
same-reference (output_of i) (primary m) e = let no : ◌≡◌ {A = ℕ} 0 1 = cc in absurd (omega arith)
same-reference (output_of i) (output_of j) e = let same : i ≡ j = cc in cc

good-earlier : (P before : ℕ) (r : Reference) → T (reference_good P before r) → Earlier (suc before) r
unfolding reference_good
good-earlier P before (primary n) t i e = let no : ◌≡◌ {A = ℕ} 0 1 = cc in absurd (omega arith)
good-earlier P before (output_of j) t i e = let same : j ≡ i = cc in omega (arith, in_between 1 before j t)

-- ---- a row of a good circuit

module _ (c : Circuit) (good : CircuitGood c) (row : Row) (is_row : RowOf c row) where
  pub label_earlier : (l : ℕ) → Earlier row.number (get_or row.instance.references l (primary 0))
  label_earlier l i e =
      let r : Reference = get_or row.instance.references l (primary 0) in
      ⊎_elim
      (λ tied. omega (arith, (row_number c row is_row).0, good-earlier c.inputs (row.number - 1) r tied i e))
      (λ none. absurd (no_output i (sym none ∙ e)))
      (row_reference c row is_row good l)

  -- no node of its instance has the wire of a label
  pub node_not_label : (m l : ℕ) → node_wire row.number row.type.output m ≡ label_wire row.instance l → ⊥
  unfolding label_wire
  node_not_label m l = not-a-node row.number row.type.output m (get_or row.instance.references l (primary 0)) (label_earlier l)

-- ---- the ends are two wires

-- a bridge between nodes has two of them
abbrev TwoEnds : Bridge → Type 0
TwoEnds (nodes a b) = a ≡ b → ⊥
TwoEnds (input m l) = Unit {0}

not_true : (b : Bool) → T (not b) → b ≡ true → ⊥
not_true true t e = t
not_true false t e = let no : ◌≡◌ {A = ℕ} 0 1 = cc in omega arith

good-two : (b : Bridge) → T (bridge_good b) → TwoEnds b
unfolding bridge_good
good-two (nodes a b) t = λ e. not_true (eqb a b) (both (leb a 31 && leb b 31) (not (eqb a b)) t).1 (eq-eqb a b e)
good-two (input m l) t = tt

faults-two : (c : Circuit) → CircuitGood c → (i : Instance) → Every TwoEnds (faults_of c.types c.bridges i)
faults-two c good i = faults_every TwoEnds good-two c good i record { nodes_do = λ a j p q e. omega arith; inputs_do = λ m l p q. tt }

ends-apart : (c : Circuit) → CircuitGood c → (row : Row) → RowOf c row → wire_of row one_end ≡ wire_of row other_end → ⊥
unfolding rows_of wire_at
ends-apart c good row m = go row.bridge (faults-two c good row.instance row.bridge (rows_from_lem c.types c.bridges 1 c.instances row m).fault)
  where
    go : (b : Bridge) → TwoEnds b → wire_at row b one_end ≡ wire_at row b other_end → ⊥
    go (nodes a b) two e = two (same-node row.number row.type.output a b e)
    go (input n l) two e = node_not_label c good row m n l e

pub ends_are_two_wires : EndsAreTwoWires
ends_are_two_wires file c accepts r h = ends-apart c (accepted-is-good true file c accepts) (row_at c r) (row_of_lem c r h)

-- ---- rows of one instance

module _ (c : Circuit) (good : CircuitGood c) (r s : Row) (p : RowOf c r) (q : RowOf c s) (one : r.number ≡ s.number) where
  instance_is : s.instance ≡ r.instance
  instance_is = row_instance c s q ∙ ap (instance_of c) (sym one) ∙ sym (row_instance c r p)

  type_is : s.type ≡ r.type
  type_is = row_type c s q ∙ ap (λ (n : ℕ). type_of_instance c.types (instance_of c n)) (sym one) ∙ sym (row_type c r p)

  -- so the wires of both are those of one row with either bridge
  wires_alike : (b : Bridge) (end : End) → wire_at s b end ≡ wire_at r b end
  unfolding wire_at
  wires_alike (nodes a b) one_end = rw (← one, type_is)
  wires_alike (nodes a b) other_end = rw (← one, type_is)
  wires_alike (input m l) one_end = rw (← one, type_is)
  wires_alike (input m l) other_end = rw instance_is

  abbrev SameWires : Bridge → Bridge → Type 0
  SameWires b d =
      ((wire_at r b one_end ≡ wire_at r d one_end) × (wire_at r b other_end ≡ wire_at r d other_end))
      ⊎ ((wire_at r b one_end ≡ wire_at r d other_end) × (wire_at r b other_end ≡ wire_at r d one_end))

  abbrev node : ℕ → ℕ → Type 0
  node a b = node_wire r.number r.type.output a ≡ node_wire r.number r.type.output b

  node_eq : (a b : ℕ) → node a b → a ≡ b
  node_eq a b = same-node r.number r.type.output a b

  node_wire_lem : (a b : ℕ) → a ≡ b → node a b
  node_wire_lem a b e = ap (node_wire r.number r.type.output) e

  -- a label of either bridge is one of the instance
  Named : Bridge → Type 0
  Named b = (m l : ℕ) → b ≡ input m l → l < length r.instance.references

  named_one : Named r.bridge
  unfolding Named
  named_one = label-named c good r p

  named_other : Named s.bridge
  unfolding Named
  named_other m l e = rw instance_is at (label-named c good s q m l e)

  reference : ℕ → Reference
  reference l = get_or r.instance.references l (primary 0)

  wires_equal : (b d : Bridge) → Named b → Named d → SameWires b d → EqualBridges r.instance b d
  unfolding wire_at EqualBridges Named label_wire
  wires_equal (nodes a b) (nodes x y) named also (inl e) = inl (node_eq a x e.0, node_eq b y e.1)
  wires_equal (nodes a b) (nodes x y) named also (inr e) = inr (node_eq a y e.0, node_eq b x e.1)
  wires_equal (nodes a b) (input m l) named also (inl e) = node_not_label c good r p b l e.1
  wires_equal (nodes a b) (input m l) named also (inr e) = node_not_label c good r p a l e.0
  wires_equal (input m l) (nodes x y) named also (inl e) = node_not_label c good r p y l (sym e.1)
  wires_equal (input m l) (nodes x y) named also (inr e) = node_not_label c good r p x l (sym e.1)
  wires_equal (input m l) (input x k) named also (inl e) = (
    node_eq m x e.0,
    λ none.
        get_or-any r.instance.references l none (primary 0) (named m l refl)
        ∙ same-reference _ _ e.1
        ∙ get_or-any r.instance.references k (primary 0) none (also x k refl),
  )
  wires_equal (input m l) (input x k) named also (inr e) = absurd (node_not_label c good r p m k e.0)

  equal_wires : (b d : Bridge) → EqualBridges r.instance b d → SameWires b d
  unfolding wire_at EqualBridges label_wire
  equal_wires (nodes a b) (nodes x y) (inl e) = inl (node_wire_lem a x e.0, node_wire_lem b y e.1)
  equal_wires (nodes a b) (nodes x y) (inr e) = inr (node_wire_lem a y e.0, node_wire_lem b x e.1)
  equal_wires (nodes a b) (input m l) e = absurd e
  equal_wires (input m l) (nodes x y) e = absurd e
  equal_wires (input m l) (input x k) e = inl (node_wire_lem m x e.0, ap reference_wire (e.1 (primary 0)))

  as_before : OneClass r s ↔ EqualBridges r.instance r.bridge s.bridge
  unfolding OneClass
  as_before =
      let first = wires_alike s.bridge one_end in
      let second = wires_alike s.bridge other_end in (
        λ o. wires_equal r.bridge s.bridge named_one named_other (rw (first, second) at o),
        λ e. rw (first, second) (equal_wires r.bridge s.bridge e),
      )

pub in_one_instance_as_before : InOneInstanceAsBefore
in_one_instance_as_before file c accepts r s h k =
    as_before c (accepted-is-good true file c accepts) (row_at c r) (row_at c s) (row_of_lem c r h) (row_of_lem c s k)
