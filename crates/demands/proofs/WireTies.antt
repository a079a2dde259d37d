-- Proves WiresAreTies and ClassesAreTies. Each tie keeps the wire of a point; and the points on one wire are tied to each other, wire by wire.
use Prim.Native.Nat.{ℕ, zero, suc, ◌<◌, ◌≤◌}
use mathlib.Core.Path.{◌≡◌, refl, sym, ap, subst, ◌∙◌}
use mathlib.Core.Bool.{Bool, true, false, cond}
use mathlib.Core.Logic.{◌⊎◌, inl, inr, ⊎_elim, ◌↔◌}
use native.Mathlib.Decide.{dec_lt}
use native.Mathlib.Omega.{arith}
use borrow.Author.Tests.{eqb-true, eq-eqb, ne_eqb}
use lib.Dec.{T, eqb}
use lib.ListN.{length, get_or, get_or-eq_default}
use Rattle.switch.specs.Conduction.{ground, supply}
use Rattle.switch.specs.Bridges.{Bridge, nodes, input}
use Rattle.switch.proofs.Channels.{in_between}
use Rattle.circuit.specs.Circuit.{Circuit, Instance, Reference, primary, output_of, numbered, type_of_instance}
use Rattle.circuit.specs.Numbers.{reference_good}
use Rattle.circuit.specs.Laws.{CircuitGood}
use Rattle.circuit.proofs.CircuitLaws.{accepted-is-good}
use Rattle.grading.specs.Rows.{Row, no_instance}
use Rattle.grading.specs.Wires.{Wire, ground_wire, supply_wire, input_wire, output_wire, inner_wire, node_wire, reference_wire, label_wire}
use Rattle.grading.specs.Wires.{End, one_end, other_end, wire_at, wire_of}
use Rattle.grading.specs.Statements.{RowOf}
use Rattle.grading.proofs.RowsPlaced.{referred}
use Rattle.grading.proofs.ValueLaws.{type-ranges, type_good}
use Rattle.demands.specs.Two.{row_at, OneClass}
use Rattle.demands.specs.OneWire.{Point, node, label, reference_at, output_node, Tied, grounds, supplies, inputs, outputs, itself, turned, through}
use Rattle.demands.specs.OneWire.{point_at, point_of, WiresAreTies, ClassesAreTies}
use Rattle.demands.proofs.RowFaults.{row_of_lem, row_instance, row_type}
use Rattle.demands.proofs.ClassCounts.{classes_count_once}

-- ---- what a label refers to

pub no_output : (k : ℕ) → primary 0 ≡ output_of k → ⊥
no_output k e = let z : ◌≡◌ {A = ℕ} 0 1 = cc in omega arith

none-at : (l : ℕ) → get_or no_instance.references l (primary 0) ≡ primary 0
none-at l = get_or-eq_default no_instance.references (primary 0) {n = l} (omega arith)

output-range : (P before k : ℕ) → T (reference_good P before (output_of k)) → (1 ≤ k) × (k ≤ before)
unfolding reference_good
output-range P before k t = in_between 1 before k t

module _ (c : Circuit) (good : CircuitGood c) where
  -- an instance that a label refers to is there
  refers_at : (j l k : ℕ) → get_or (get_or c.instances j no_instance).references l (primary 0) ≡ output_of k → (1 ≤ k) × (k ≤ length c.instances)
  refers_at j l k e = go (dec_lt j (length c.instances))
    where
      inst : Instance
      inst = get_or c.instances j no_instance

      go : Dec (j < length c.instances) → (1 ≤ k) × (k ≤ length c.instances)
      go (yes h) =
          ⊎_elim
          (λ tied. let range = output-range c.inputs j k (rw e at tied) in (range.0, omega (arith, range.1)))
          (λ none. absurd (no_output k (sym none ∙ e)))
          (referred c.inputs j inst.references (good.instances j no_instance h).references l)
      go (no h) =
          let none : inst ≡ no_instance = get_or-eq_default c.instances no_instance {n = j} (omega arith) in
          absurd (no_output k (sym (none-at l) ∙ ap (λ (i : Instance). get_or i.references l (primary 0)) (sym none) ∙ e))

  refers : (n l k : ℕ) → reference_at c n l ≡ output_of k → (1 ≤ k) × (k ≤ length c.instances)
  unfolding numbered
  refers zero l k e = absurd (no_output k (sym (none-at l) ∙ e))
  refers (suc j) l k e = refers_at j l k e

  -- its output is no rail
  output_high : (k : ℕ) → 1 ≤ k → k ≤ length c.instances → 2 ≤ output_node c k
  unfolding numbered
  output_high zero low high = absurd (omega arith)
  output_high (suc j) low high =
      let inst : Instance = get_or c.instances j no_instance in
      (type-ranges (type_of_instance c.types inst) (type_good c good j high no_instance inst refl).sound).output_low

-- ---- ties keep wires

output_wire_lem : (n o : ℕ) → 2 ≤ o → node_wire n o o ≡ output_wire n
unfolding node_wire
output_wire_lem n o h = rw (ne_eqb o ground (omega arith), ne_eqb o supply (omega arith), eq-eqb o o refl)

wire_of_point : Circuit → Point → Wire
wire_of_point c (node n m) = node_wire n (output_node c n) m
wire_of_point c (label n l) = reference_wire (reference_at c n l)

tied_wire : (c : Circuit) → CircuitGood c → (p q : Point) → Tied c p q → wire_of_point c p ≡ wire_of_point c q
unfolding wire_of_point node_wire reference_wire
tied_wire c good p q (grounds n k) = refl
tied_wire c good p q (supplies n k) = refl
tied_wire c good p q (inputs n l k m i e f) = ap reference_wire (e ∙ sym f)
tied_wire c good p q (outputs n l k e) =
    let range = refers c good n l k e in
    output_wire_lem k (output_node c k) (output_high c good k range.0 range.1) ∙ ap reference_wire (sym e)
tied_wire c good p q (itself x) = refl
tied_wire c good p q (turned x y t) = sym (tied_wire c good x y t)
tied_wire c good p q (through x y z t u) = tied_wire c good x y t ∙ tied_wire c good y z u

-- ---- points on one wire are tied

module _ (c : Circuit) where
  -- where a point on a wire is
  PointOn : Wire → Point → Type 0
  PointOn ground_wire p = (n : ℕ) × (p ≡ node n ground)
  PointOn supply_wire p = (n : ℕ) × (p ≡ node n supply)
  PointOn (input_wire i) p = (n : ℕ) × (l : ℕ) × (p ≡ label n l) × (reference_at c n l ≡ primary i)
  PointOn (output_wire i) p = (p ≡ node i (output_node c i)) ⊎ ((n : ℕ) × (l : ℕ) × (p ≡ label n l) × (reference_at c n l ≡ output_of i))
  PointOn (inner_wire n m) p = p ≡ node n m

  node_on : (n m : ℕ) → PointOn (node_wire n (output_node c n) m) (node n m)
  unfolding node_wire PointOn
  node_on n m = go (eqb m ground) refl (eqb m supply) refl (eqb m (output_node c n)) refl
    where
      go : (x : Bool) → eqb m ground ≡ x → (y : Bool) → eqb m supply ≡ y → (z : Bool) → eqb m (output_node c n) ≡ z
          → PointOn (cond x ground_wire (cond y supply_wire (cond z (output_wire n) (inner_wire n m)))) (node n m)
      go true e y f z g = (n, ap (node n) (eqb-true m ground e))
      go false e true f z g = (n, ap (node n) (eqb-true m supply f))
      go false e false f true g = inl (ap (node n) (eqb-true m (output_node c n) g))
      go false e false f false g = refl

  label_on : (n l : ℕ) → PointOn (reference_wire (reference_at c n l)) (label n l)
  unfolding reference_wire PointOn
  label_on n l = go (reference_at c n l) refl
    where
      go : (r : Reference) → reference_at c n l ≡ r → PointOn (reference_wire r) (label n l)
      go (primary i) e = (n, l, refl, e)
      go (output_of i) e = inr (n, l, refl, e)

  point_on : (p : Point) → PointOn (wire_of_point c p) p
  unfolding wire_of_point
  point_on (node n m) = node_on n m
  point_on (label n l) = label_on n l

  -- of two points known to be these
  tied_at : (p q x y : Point) → p ≡ x → q ≡ y → Tied c x y → Tied c p q
  tied_at p q x y e f t = rw (e, f) t

  tied_on : (w : Wire) (p q : Point) → PointOn w p → PointOn w q → Tied c p q
  unfolding PointOn
  tied_on ground_wire p q (n, e) (k, f) = tied_at p q _ _ e f (grounds n k)
  tied_on supply_wire p q (n, e) (k, f) = tied_at p q _ _ e f (supplies n k)
  tied_on (input_wire i) p q (n, l, e, r) (k, m, f, s) = tied_at p q _ _ e f (inputs n l k m i r s)
  tied_on (output_wire i) p q (inl e) (inl f) = tied_at p q _ _ e f (itself _)
  tied_on (output_wire i) p q (inl e) (inr (k, m, f, s)) = tied_at p q _ _ e f (outputs k m i s)
  tied_on (output_wire i) p q (inr (n, l, e, r)) (inl f) = tied_at p q _ _ e f (turned _ _ (outputs n l i r))
  tied_on (output_wire i) p q (inr (n, l, e, r)) (inr (k, m, f, s)) =
      tied_at p q _ _ e f (through _ _ _ (turned _ _ (outputs n l i r)) (outputs k m i s))
  tied_on (inner_wire n m) p q e f = tied_at p q _ _ e f (itself _)

  wire_tied : (p q : Point) → wire_of_point c p ≡ wire_of_point c q → Tied c p q
  wire_tied p q e = tied_on (wire_of_point c q) p q (subst (λ (w : Wire). PointOn w p) e (point_on p)) (point_on q)

-- ---- rows

module _ (c : Circuit) (row : Row) (is_row : RowOf c row) where
  end_wire : (end : End) → wire_of row end ≡ wire_of_point c (point_of row end)
  unfolding wire_at label_wire point_at wire_of_point
  end_wire end = go row.bridge end
    where
      node_wire_lem : (m : ℕ) → node_wire row.number row.type.output m ≡ node_wire row.number (output_node c row.number) m
      node_wire_lem m = rw (row_type c row is_row)

      go : (b : Bridge) (end : End) → wire_at row b end ≡ wire_of_point c (point_at row.number b end)
      go (nodes a b) one_end = node_wire_lem a
      go (nodes a b) other_end = node_wire_lem b
      go (input m l) one_end = node_wire_lem m
      go (input m l) other_end = ap (λ (i : Instance). reference_wire (get_or i.references l (primary 0))) (row_instance c row is_row)

module _ (c : Circuit) (good : CircuitGood c) (r s : Row) (p : RowOf c r) (q : RowOf c s) where
  ends_tied : (d e : End) → (wire_of r d ≡ wire_of s e) ↔ Tied c (point_of r d) (point_of s e)
  ends_tied d e = (
    λ same. wire_tied c (point_of r d) (point_of s e) (sym (end_wire c r p d) ∙ same ∙ end_wire c s q e),
    λ tied. end_wire c r p d ∙ tied_wire c good (point_of r d) (point_of s e) tied ∙ sym (end_wire c s q e),
  )

pub wires_are_ties : WiresAreTies
wires_are_ties file c accepts r s h k = ends_tied c (accepted-is-good true file c accepts) (row_at c r) (row_at c s) (row_of_lem c r h) (row_of_lem c s k)

pub classes_are_ties : ClassesAreTies
unfolding OneClass
classes_are_ties call c given r s h k =
    let told = (classes_count_once call c given).same r s h k in
    let ties : (d e : End) → (wire_of (row_at c r) d ≡ wire_of (row_at c s) e) ↔ Tied c (point_of (row_at c r) d) (point_of (row_at c s) e) =
    ends_tied c (accepted-is-good true call.file c given.accepts) (row_at c r) (row_at c s) (row_of_lem c r h) (row_of_lem c s k) in (
      λ e.
          ⊎_elim
          (λ o. inl ((ties one_end one_end).0 o.0, (ties other_end other_end).0 o.1))
          (λ o. inr ((ties one_end other_end).0 o.0, (ties other_end one_end).0 o.1))
          (told.0 e),
      λ t.
          told.1 (⊎_elim
          (λ o. inl ((ties one_end one_end).1 o.0, (ties other_end other_end).1 o.1))
          (λ o. inr ((ties one_end other_end).1 o.0, (ties other_end one_end).1 o.1))
          t),
    )
