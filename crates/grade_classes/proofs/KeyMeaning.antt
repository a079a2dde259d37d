-- The key of a row tells its class: two rows of a circuit have equal keys exactly when they are one class, since each wire of a circuit has its
-- own number, and a pair of numbers is known by its lower and its higher one. Assumes nothing.
use Prim.Native.Nat.{ℕ, ◌-◌, ◌<◌, ◌≤◌}
use mathlib.Core.Path.{◌≡◌, refl, ap, ◌∙◌}
use mathlib.Core.Logic.{⊎_elim}
use mathlib.Core.Bool.{Bool, true, false, ◌&&◌, ◌||◌}
use native.Mathlib.Omega.{arith}
use borrow.Author.Tests.{eqb-true, eqb-false, eq-eqb, ne_eqb}
use lib.Dec.{T, eqb}
use lib.ListN.{get_or}
use Rattle.words.proofs.Tables.{get_or-table}
use Rattle.switch.specs.Bridges.{Bridge, nodes, input}
use Rattle.switch.proofs.Channels.{in_between}
use Rattle.circuit.specs.Circuit.{Circuit, Reference, primary, output_of, Instance}
use Rattle.circuit.specs.Numbers.{reference_good}
use Rattle.circuit.specs.Records.{unused_reference}
use Rattle.circuit.specs.Laws.{CircuitGood}
use Rattle.grading.specs.Rows.{Row}
use Rattle.grading.specs.Wires.{Wire, reference_wire, label_wire, one_end, other_end, wire_at, wire_of}
use Rattle.grading.specs.Classes.{same_pair, same_class}
use Rattle.grading.specs.Statements.{RowOf}
use Rattle.grading.specs.Codes.{kind_of, first_end, second_end, code_of}
use Rattle.grading.proofs.CodeLaws.{code_kind, code_first, code_second}
use Rattle.grading.proofs.FaultRanges.{BridgeFits, rows_fit}
use Rattle.grading.proofs.RecordReads.{references_of, reference_at_lem}
use Rattle.grading.proofs.RowsPlaced.{row_placed, row_reference}
use Rattle.grade_classes.specs.Model.{wire_number, reference_number, label_numbers, pair_key, key_of}
use Rattle.grade_classes.proofs.WireNumbers.{WireFits, reference-number, number-few, same_number, node-fits}

-- ---- pairs

-- a pair is known by its lower and its higher number
pair_key_lem : (a b c d : ℕ) → a < 8192 → b < 8192 → c < 8192 → d < 8192
    → eqb (pair_key a b) (pair_key c d) ≡ (eqb a c && eqb b d || eqb a d && eqb b c)
unfolding pair_key
pair_key_lem a b c d p q r s = go (eqb a c) refl (eqb b d) refl (eqb a d) refl (eqb b c) refl
  where
    x : ℕ
    x = pair_key a b

    y : ℕ
    y = pair_key c d

    go : (i : Bool) → eqb a c ≡ i → (j : Bool) → eqb b d ≡ j → (k : Bool) → eqb a d ≡ k → (l : Bool) → eqb b c ≡ l → eqb x y ≡ (i && j || k && l)
    go true i true j k e l f = eq-eqb x y (omega (arith, eqb-true a c i, eqb-true b d j))
    go true i false j true k true l = eq-eqb x y (omega (arith, eqb-true a d k, eqb-true b c l))
    go true i false j true k false l = ne_eqb x y (omega (arith, eqb-true a c i, eqb-true a d k, eqb-false b d j, eqb-false b c l))
    go true i false j false k l f = ne_eqb x y (omega (arith, eqb-true a c i, eqb-false b d j))
    go false i j e true k true l = eq-eqb x y (omega (arith, eqb-true a d k, eqb-true b c l))
    go false i j e true k false l = ne_eqb x y (omega (arith, eqb-true a d k, eqb-false b c l))
    go false i j e false k l f = ne_eqb x y (omega (arith, eqb-false a c i, eqb-false a d k))

wires_key : (a b c d : Wire) → WireFits a → WireFits b → WireFits c → WireFits d
    → eqb (pair_key (wire_number a) (wire_number b)) (pair_key (wire_number c) (wire_number d)) ≡ same_pair a b c d
unfolding same_pair
wires_key a b c d p q r s =
    pair_key_lem (wire_number a) (wire_number b) (wire_number c) (wire_number d) (number-few a p) (number-few b q) (number-few c r) (number-few d s)
    ∙ rw (same_number a c p r, same_number b d q s, same_number a d p s, same_number b c q r)

-- ---- the key of a row

abbrev pub row_key : Row → ℕ
row_key r = pair_key (wire_number (wire_of r one_end)) (wire_number (wire_of r other_end))

label_at : (i : Instance) (l : ℕ) → l < 12 → get_or (label_numbers (references_of i)) l 0 ≡ reference_number (get_or (references_of i) l unused_reference)
unfolding label_numbers
label_at i l h = get_or-table 12 (λ (l : ℕ). reference_number (get_or (references_of i) l unused_reference)) 0 l h

-- as the code works it out
pub key-is : (r : Row) → BridgeFits r.bridge
    → key_of r.number r.type.output (label_numbers (references_of r.instance)) (code_of r.number r.bridge) ≡ row_key r
unfolding key_of kind_of first_end second_end wire_at label_wire
key-is r fits = go r.bridge fits
  where
    n : ℕ
    n = r.number

    o : ℕ
    o = r.type.output

    label : (l : ℕ) → l < 12 → get_or (label_numbers (references_of r.instance)) l 0 ≡ wire_number (label_wire r.instance l)
    label l h =
        label_at r.instance l h
        ∙ ap reference_number (reference_at_lem r.instance l h)
        ∙ reference-number (get_or r.instance.references l (primary 0))

    go : (b : Bridge) → BridgeFits b
        → key_of n o (label_numbers (references_of r.instance)) (code_of n b)
        ≡ pair_key (wire_number (wire_at r b one_end)) (wire_number (wire_at r b other_end))
    go (nodes a b) f =
        let d : Bridge = nodes a b in rw (code_kind n d f, code_first n d f, code_second n d f)
    go (input m l) f =
        let d : Bridge = input m l in rw (code_kind n d f, code_first n d f, code_second n d f, label l f.1)

-- ---- the wires of a circuit's rows

reference-fits : (P before : ℕ) (r : Reference) → P ≤ 64 → before ≤ 128 → T (reference_good P before r) → WireFits (reference_wire r)
unfolding reference_good reference_wire WireFits
reference-fits P before (primary n) h k t = omega (arith, in_between 1 P n t)
reference-fits P before (output_of i) h k t = omega (arith, in_between 1 before i t)

-- a label that is not there
none-fits : WireFits (reference_wire (primary 0))
unfolding reference_wire WireFits
none-fits = omega arith

module _ (c : Circuit) (good : CircuitGood c) (row : Row) (is_row : RowOf c row) where
  abbrev RowWired : Type 0
  RowWired = WireFits (wire_of row one_end) × WireFits (wire_of row other_end)

  few : row.number ≤ 128
  few = omega (arith, (row_placed c row is_row).high, good.few_instances)

  label_fits : (l : ℕ) → WireFits (label_wire row.instance l)
  unfolding label_wire
  label_fits l =
      ⊎_elim
      (reference-fits c.inputs (row.number - 1) (get_or row.instance.references l (primary 0)) good.few_inputs (omega (arith, few)))
      (λ none. rw none none-fits)
      (row_reference c row is_row good l)

  row_wired : RowWired
  unfolding wire_at
  row_wired = go row.bridge (rows_fit c good row is_row).1
    where
      go : (b : Bridge) → BridgeFits b → WireFits (wire_at row b one_end) × WireFits (wire_at row b other_end)
      go (nodes a b) fits =
          (node-fits row.number row.type.output a few fits.0, node-fits row.number row.type.output b few fits.1)
      go (input m l) fits = (node-fits row.number row.type.output m few fits.0, label_fits l)

pub same_key : (c : Circuit) → CircuitGood c → (r s : Row) → RowOf c r → RowOf c s → eqb (row_key r) (row_key s) ≡ same_class r s
unfolding same_class
same_key c good r s p q =
    let one = row_wired c good r p in
    let other = row_wired c good s q in
    wires_key (wire_of r one_end) (wire_of r other_end) (wire_of s one_end) (wire_of s other_end) one.0 one.1 other.0 other.1
