-- The numbers of wires: what the code gives for a node and for a reference, and that on the wires of a circuit different wires have different
-- numbers. Assumes nothing.
use Prim.Native.Nat.{ℕ, ◌+◌, ◌-◌, ◌*◌, ◌/◌, ◌%◌, ◌<◌, ◌≤◌}
use mathlib.Core.Path.{◌≡◌, refl, sym, ap, ◌∙◌}
use mathlib.Core.Bool.{Bool, true, false, cond}
use native.Mathlib.Omega.{arith}
use borrow.Author.Tests.{eqb-true, eqb-false, eq-eqb, ne_eqb, lt-ltb, le-ltb}
use lib.Dec.{eqb, ltb, eqb→eq, eqb_refl}
use Rattle.switch.specs.Conduction.{ground, supply}
use Rattle.switch.proofs.Deciding.{same_test}
use Rattle.circuit.specs.Circuit.{Reference, primary, output_of}
use Rattle.circuit.specs.Records.{reference_record}
use Rattle.grading.specs.Wires.{Wire, ground_wire, supply_wire, input_wire, output_wire, inner_wire, node_wire, reference_wire}
use Rattle.grading.specs.Classes.{same_wire}
use Rattle.grading.proofs.WireLaws.{wire_eq, wire_same}
use Rattle.grade_classes.specs.Model.{wire_number, reference_number}

-- ---- of a node

module _ (n o m : ℕ) where
  pub rail_number : m < 2 → m ≡ wire_number (node_wire n o m)
  unfolding wire_number node_wire
  rail_number h = go (eqb m ground) refl (eqb m supply) refl
    where
      rest : Wire
      rest = cond (eqb m o) (output_wire n) (inner_wire n m)

      go : (x : Bool) → eqb m ground ≡ x → (y : Bool) → eqb m supply ≡ y → m ≡ wire_number (cond x ground_wire (cond y supply_wire rest))
      go true p y q = eqb-true m ground p
      go false p true q = eqb-true m supply q
      go false p false q = absurd (omega (arith, eqb-false m ground p, eqb-false m supply q))

  module _ (inside : 2 ≤ m) where
    no_rail : (eqb m ground ≡ false) × (eqb m supply ≡ false)
    no_rail = (ne_eqb m ground (omega arith), ne_eqb m supply (omega arith))

    pub output_number : m ≡ o → 67 + n ≡ wire_number (node_wire n o m)
    unfolding wire_number node_wire
    output_number e = rw (no_rail.0, no_rail.1, eq-eqb m o e)

    pub inner_number : (m ≡ o → ⊥) → 256 + (32 * n + m) ≡ wire_number (node_wire n o m)
    unfolding wire_number node_wire
    inner_number e = rw (no_rail.0, no_rail.1, ne_eqb m o e)

-- ---- of a reference

pub reference-number : (r : Reference) → reference_number (reference_record r) ≡ wire_number (reference_wire r)
unfolding reference_number reference_record wire_number reference_wire
reference-number (primary n) = refl
reference-number (output_of i) = refl

-- ---- back

-- the wires of a circuit, and an input 0 for a label that is not there
unfoldable pub WireFits : Wire → Type 0
WireFits ground_wire = Unit {0}
WireFits supply_wire = Unit {0}
WireFits (input_wire n) = n ≤ 64
WireFits (output_wire n) = n ≤ 128
WireFits (inner_wire n m) = (n ≤ 128) × (m < 32)

numbered : ℕ → Wire
numbered k =
    cond (eqb k 0) ground_wire (cond (eqb k 1) supply_wire (cond (ltb k 67) (input_wire (k - 2)) (cond (ltb k 256) (output_wire (k - 67))
    (inner_wire ((k - 256) / 32) ((k - 256) % 32)))))

number-back : (w : Wire) → WireFits w → numbered (wire_number w) ≡ w
unfolding numbered wire_number WireFits
number-back ground_wire fits = refl
number-back supply_wire fits = refl
number-back (input_wire n) fits =
    let e : 2 + n - 2 ≡ n = omega arith in
    rw (ne_eqb (2 + n) 0 (omega arith), ne_eqb (2 + n) 1 (omega arith), lt-ltb (2 + n) 67 (omega (arith, fits)), e)
number-back (output_wire n) fits =
    let e : 67 + n - 67 ≡ n = omega arith in
    rw (
      ne_eqb (67 + n) 0 (omega arith),
      ne_eqb (67 + n) 1 (omega arith),
      le-ltb (67 + n) 67 (omega arith),
      lt-ltb (67 + n) 256 (omega (arith, fits)),
      e,
    )
number-back (inner_wire n m) fits =
    let high : (256 + (32 * n + m) - 256) / 32 ≡ n = omega (arith, fits.1) in
    let low : (256 + (32 * n + m) - 256) % 32 ≡ m = omega (arith, fits.1) in
    rw (
      ne_eqb (256 + (32 * n + m)) 0 (omega arith),
      ne_eqb (256 + (32 * n + m)) 1 (omega arith),
      le-ltb (256 + (32 * n + m)) 67 (omega arith),
      le-ltb (256 + (32 * n + m)) 256 (omega arith),
      high,
      low,
    )

-- below 8,192, so that two fit in one key
pub number-few : (w : Wire) → WireFits w → wire_number w < 8192
unfolding wire_number WireFits
number-few ground_wire fits = omega arith
number-few supply_wire fits = omega arith
number-few (input_wire n) fits = omega (arith, fits)
number-few (output_wire n) fits = omega (arith, fits)
number-few (inner_wire n m) fits = omega (arith, fits.0, fits.1)

pub same_number : (v w : Wire) → WireFits v → WireFits w → eqb (wire_number v) (wire_number w) ≡ same_wire v w
same_number v w p q =
    same_test (eqb (wire_number v) (wire_number w)) (same_wire v w)
    (λ t. wire_same v w (sym (number-back v p) ∙ ap numbered (eqb→eq (wire_number v) (wire_number w) t) ∙ number-back w q))
    (λ t. rw (wire_eq v w t) (eqb_refl (wire_number w)))

pub node-fits : (n o m : ℕ) → n ≤ 128 → m < 32 → WireFits (node_wire n o m)
unfolding node_wire WireFits
node-fits n o m p q = go (eqb m ground) (eqb m supply) (eqb m o)
  where
    go : (x y z : Bool) → WireFits (cond x ground_wire (cond y supply_wire (cond z (output_wire n) (inner_wire n m))))
    go true y z = tt
    go false true z = tt
    go false false true = p
    go false false false = (p, q)

-- whatever the output node is
pub node-few : (n o m : ℕ) → n < 256 → m < 256 → wire_number (node_wire n o m) < 65536
unfolding node_wire wire_number
node-few n o m p q = go (eqb m ground) (eqb m supply) (eqb m o)
  where
    go : (x y z : Bool) → wire_number (cond x ground_wire (cond y supply_wire (cond z (output_wire n) (inner_wire n m)))) < 65536
    go true y z = omega arith
    go false true z = omega arith
    go false false true = omega arith
    go false false false = omega arith
