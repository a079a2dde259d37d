-- A cell is a symmetric function of what the two wires of its row carry. A wire has one level, whichever instance looks at it: a node's is what
-- the node is joined to in its own instance, and a label's is its value. The ends of a closed bridge mark by these levels alone, since the rails
-- of an accepted type are apart.
use Prim.Native.Nat.{ℕ, suc, ◌-◌, ◌<◌}
use mathlib.Core.Path.{◌≡◌, refl, sym, ap, ap₂, ◌∙◌}
use mathlib.Core.Bool.{Bool, true, false, cond}
use mathlib.Core.Logic.{◌⊎◌, inl, inr, ◌↔◌}
use mathlib.Core.List.{List}
use native.Mathlib.Omega.{arith}
use borrow.Author.Tests.{eqb-true}
use lib.Dec.{T, eqb}
use lib.ListN.{length, get_or}
use Rattle.switch.specs.Conduction.{Value, at0, at1, at_x, Link, Joined, here, ground, supply}
use Rattle.switch.specs.Modules.{ModuleType, links_of}
use Rattle.switch.specs.Bridges.{Bridge, nodes, input, MarkedByEnds}
use Rattle.switch.specs.Deciding.{joins, level_in, is_marked}
use Rattle.switch.specs.Statements.{Accepted}
use Rattle.switch.proofs.Paths.{turned, through}
use Rattle.switch.proofs.Apart.{rails-apart}
use Rattle.switch.proofs.Marks.{closed_path_is_ends}
use Rattle.switch.proofs.Deciding.{same_test, joins_decides, mark_decides}
use Rattle.circuit.specs.Circuit.{Circuit, Instance, Reference, primary, output_of, numbered, type_of_instance}
use Rattle.circuit.specs.Laws.{CircuitGood}
use Rattle.grading.specs.Values.{value_at, label_values, outputs_of}
use Rattle.grading.specs.Rows.{Row, no_instance, row_values, cell}
use Rattle.grading.specs.Wires.{ground_wire, supply_wire, output_wire, inner_wire, node_wire, reference_wire, label_wire}
use Rattle.grading.specs.Wires.{one_end, other_end, wire_at, wire_of, carried, leaks}
use Rattle.grading.specs.Statements.{RowOf, CellsAreOfWires}
use Rattle.grading.proofs.ValueLaws.{type_good, type-accepted, label_value}
use Rattle.grading.proofs.SettledOutputs.{output_at}
use Rattle.grading.proofs.RowsPlaced.{Placed, row_placed, row_within}

-- ---- two levels

-- one is 1 and the other 0
abbrev pub Opposed : Value → Value → Type 0
Opposed u v = ((u ≡ at1) × (v ≡ at0)) ⊎ ((u ≡ at0) × (v ≡ at1))

pub leaks_opposed : (u v : Value) → T (leaks u v) → Opposed u v
unfolding leaks
leaks_opposed at0 at0 t = absurd t
leaks_opposed at0 at1 t = inr (refl, refl)
leaks_opposed at0 at_x t = absurd t
leaks_opposed at1 at0 t = inl (refl, refl)
leaks_opposed at1 at1 t = absurd t
leaks_opposed at1 at_x t = absurd t
leaks_opposed at_x v t = absurd t

pub opposed_leaks : (u v : Value) → Opposed u v → T (leaks u v)
unfolding leaks
opposed_leaks u v (inl e) = rw (e.0, e.1) tt
opposed_leaks u v (inr e) = rw (e.0, e.1) tt

leaks_either_way : (u v : Value) → leaks u v ≡ leaks v u
unfolding leaks
leaks_either_way at0 at0 = refl
leaks_either_way at0 at1 = refl
leaks_either_way at0 at_x = refl
leaks_either_way at1 at0 = refl
leaks_either_way at1 at1 = refl
leaks_either_way at1 at_x = refl
leaks_either_way at_x at0 = refl
leaks_either_way at_x at1 = refl
leaks_either_way at_x at_x = refl

-- ---- the level of a node

level_1 : (s g : Bool) → cond s at1 (cond g at0 at_x) ≡ at1 → T s
level_1 true g e = tt
level_1 false true e = let z : ◌≡◌ {A = ℕ} 0 1 = cc in absurd (omega arith)
level_1 false false e = let z : ◌≡◌ {A = ℕ} 0 1 = cc in absurd (omega arith)

level_0 : (s g : Bool) → cond s at1 (cond g at0 at_x) ≡ at0 → T g
level_0 true g e = let z : ◌≡◌ {A = ℕ} 0 1 = cc in absurd (omega arith)
level_0 false true e = tt
level_0 false false e = let z : ◌≡◌ {A = ℕ} 0 1 = cc in absurd (omega arith)

to_1 : (s g : Bool) → T s → cond s at1 (cond g at0 at_x) ≡ at1
to_1 true g t = refl
to_1 false g t = absurd t

to_0 : (s g : Bool) → (T s → ⊥) → T g → cond s at1 (cond g at0 at_x) ≡ at0
to_0 true g n t = absurd (n tt)
to_0 false true n t = refl
to_0 false false n t = absurd t

module _ (t : ModuleType) (acc : Accepted t) (values : ℕ → Value) where
  abbrev ws : List Link
  ws = links_of t values

  module _ (m : ℕ) where
    pub at_supply : (level_in ws m ≡ at1) ↔ Joined ws m supply
    unfolding level_in
    at_supply = (
      λ e. (joins_decides ws m supply).1 (level_1 (joins ws m supply) (joins ws m ground) e),
      λ p. to_1 (joins ws m supply) (joins ws m ground) ((joins_decides ws m supply).0 p),
    )

    pub at_ground : (level_in ws m ≡ at0) ↔ Joined ws m ground
    unfolding level_in
    at_ground = (
      λ e. (joins_decides ws m ground).1 (level_0 (joins ws m supply) (joins ws m ground) e),
      λ p.
          to_0 (joins ws m supply) (joins ws m ground)
          (λ s. rails-apart.rails t acc values (through_node ((joins_decides ws m supply).1 s) p))
          ((joins_decides ws m ground).0 p),
    )
      where
        through_node : Joined ws m supply → Joined ws m ground → Joined ws supply ground
        through_node p q = through (turned p) q

  -- a bridge is marked when the levels of its ends leak
  by_levels : (bridge : Bridge) (u v : Value) → MarkedByEnds t values bridge ↔ Opposed u v → is_marked t values bridge ≡ leaks u v
  by_levels bridge u v ends =
      same_test (is_marked t values bridge) (leaks u v)
      (λ m. opposed_leaks u v (ends.0 ((closed_path_is_ends t acc values bridge).0 ((mark_decides t values bridge).1 m))))
      (λ l. (mark_decides t values bridge).0 ((closed_path_is_ends t acc values bridge).1 (ends.1 (leaks_opposed u v l))))

  pub nodes_leak : (a b : ℕ) → is_marked t values (nodes a b) ≡ leaks (level_in ws a) (level_in ws b)
  unfolding MarkedByEnds
  nodes_leak a b = by_levels (nodes a b) (level_in ws a) (level_in ws b) (forth, back)
    where
      forth : MarkedByEnds t values (nodes a b) → Opposed (level_in ws a) (level_in ws b)
      forth (inl p) = inl ((at_supply a).1 p.0, (at_ground b).1 p.1)
      forth (inr p) = inr ((at_ground a).1 p.0, (at_supply b).1 p.1)

      back : Opposed (level_in ws a) (level_in ws b) → MarkedByEnds t values (nodes a b)
      back (inl p) = inl ((at_supply a).0 p.0, (at_ground b).0 p.1)
      back (inr p) = inr ((at_ground a).0 p.0, (at_supply b).0 p.1)

  pub input_leaks : (m l : ℕ) → is_marked t values (input m l) ≡ leaks (level_in ws m) (values l)
  unfolding MarkedByEnds
  input_leaks m l = by_levels (input m l) (level_in ws m) (values l) (forth, back)
    where
      forth : MarkedByEnds t values (input m l) → Opposed (level_in ws m) (values l)
      forth (inl p) = inr ((at_ground m).1 p.1, p.0)
      forth (inr p) = inl ((at_supply m).1 p.1, p.0)

      back : Opposed (level_in ws m) (values l) → MarkedByEnds t values (input m l)
      back (inl p) = inr (p.1, (at_supply m).0 p.0)
      back (inr p) = inl (p.1, (at_ground m).0 p.0)

-- ---- the level of a wire

accepted : (c : Circuit) → CircuitGood c → (k : ℕ) → k < length c.instances → Accepted (type_of_instance c.types (get_or c.instances k no_instance))
accepted c good k h = type-accepted _ (type_good c good k h no_instance (get_or c.instances k no_instance) refl)

module _ (c : Circuit) (good : CircuitGood c) (vector : List Value) where
  abbrev outputs : List Value
  outputs = outputs_of c.types vector c.instances

  module _ (k : ℕ) (h : k < length c.instances) where
    abbrev inst : Instance
    inst = get_or c.instances k no_instance

    abbrev type : ModuleType
    type = type_of_instance c.types inst

    abbrev values : ℕ → Value
    values = label_values vector outputs inst

    -- a node of the instance at place k, whose number is one more
    node_level : (m : ℕ) → carried c vector (node_wire (suc k) type.output m) ≡ level_in (links_of type values) m
    unfolding node_wire carried numbered
    node_level m = go (eqb m ground) refl (eqb m supply) refl (eqb m type.output) refl
      where
        go : (x : Bool) → eqb m ground ≡ x → (y : Bool) → eqb m supply ≡ y → (z : Bool) → eqb m type.output ≡ z
            → carried c vector (cond x ground_wire (cond y supply_wire (cond z (output_wire (suc k)) (inner_wire (suc k) m)))) ≡ level_in (links_of type values) m
        go true p y q z r = rw (eqb-true m ground p) (sym ((at_ground type (accepted c good k h) values ground).1 here))
        go false p true q z r = rw (eqb-true m supply q) (sym ((at_supply type (accepted c good k h) values supply).1 here))
        go false p false q true r = rw (eqb-true m type.output r) (output_at c good vector no_instance k h)
        go false p false q false r = refl

-- a label
reference-level : (c : Circuit) (vector : List Value) (r : Reference)
    → carried c vector (reference_wire r) ≡ value_at vector (outputs_of c.types vector c.instances) r
unfolding carried reference_wire value_at
reference-level c vector (primary n) = refl
reference-level c vector (output_of i) = refl

-- ---- rows

module _ (c : Circuit) (good : CircuitGood c) (row : Row) (is_row : RowOf c row) where
  abbrev placed : Placed c.types 1 c.instances no_instance row
  placed = row_placed c row is_row

  abbrev at : ℕ
  at = row.number - 1

  within : at < length c.instances
  within = row_within c row is_row

  pub row_accepted : Accepted row.type
  row_accepted = rw (placed.type_is, placed.instance_is) (accepted c good at within)

  module _ (vector : List Value) where
    pub row_node : (m : ℕ) → carried c vector (node_wire row.number row.type.output m) ≡ level_in (links_of row.type (row_values c vector row)) m
    unfolding row_values
    row_node m =
        let next : row.number ≡ suc at = omega (arith, placed.low) in
        rw (placed.type_is, placed.instance_is)
        (ap (λ (n : ℕ). carried c vector (node_wire n (type c good vector at within).output m)) next ∙ node_level c good vector at within m)

    pub row_label : (l : ℕ) → carried c vector (label_wire row.instance l) ≡ row_values c vector row l
    unfolding label_wire row_values
    row_label l =
        reference-level c vector (get_or row.instance.references l (primary 0))
        ∙ sym (label_value vector (outputs_of c.types vector c.instances) row.instance l)

    cell_is : cell c vector row ≡ leaks (carried c vector (wire_of row one_end)) (carried c vector (wire_of row other_end))
    unfolding cell wire_at
    cell_is = go row.bridge
      where
        go : (b : Bridge) → is_marked row.type (row_values c vector row) b
            ≡ leaks (carried c vector (wire_at row b one_end)) (carried c vector (wire_at row b other_end))
        go (nodes a b) =
            nodes_leak row.type row_accepted (row_values c vector row) a b ∙ ap₂ leaks (sym (row_node a)) (sym (row_node b))
        go (input m l) =
            input_leaks row.type row_accepted (row_values c vector row) m l ∙ ap₂ leaks (sym (row_node m)) (sym (row_label l))

pub cells_are_of_wires : CellsAreOfWires
cells_are_of_wires = record { cell_is = cell_is; either_way = leaks_either_way }
