-- Wires: the test for one wire tells equal wires, and the test for one pair tells pairs that are equal either way round. Assumes nothing.
use Prim.Native.Nat.{ℕ, zero, suc}
use mathlib.Core.Path.{◌≡◌, refl, sym, ◌∙◌}
use mathlib.Core.Bool.{◌&&◌}
use mathlib.Core.Logic.{◌⊎◌, inl, inr, ⊎_elim}
use lib.Dec.{T, eqb, eqb→eq, eqb_refl}
use Rattle.switch.proofs.Paths.{both}
use Rattle.switch.proofs.Deciding.{and_both}
use Rattle.grading.specs.Wires.{Wire, ground_wire, supply_wire, input_wire, output_wire, inner_wire}
use Rattle.grading.specs.Classes.{wire_sort, wire_owner, wire_node, same_wire, same_pair}
use Rattle.grading.proofs.OrTests.{in_first, in_second, or_cases}

-- ---- one wire

-- the wire of a sort with these numbers
of_sort : ℕ → ℕ → ℕ → Wire
of_sort zero n m = ground_wire
of_sort (suc zero) n m = supply_wire
of_sort (suc (suc zero)) n m = input_wire n
of_sort (suc (suc (suc zero))) n m = output_wire n
of_sort (suc (suc (suc (suc k)))) n m = inner_wire n m

of_sort_lem : (w : Wire) → of_sort (wire_sort w) (wire_owner w) (wire_node w) ≡ w
unfolding of_sort wire_sort wire_owner wire_node
of_sort_lem ground_wire = refl
of_sort_lem supply_wire = refl
of_sort_lem (input_wire n) = refl
of_sort_lem (output_wire n) = refl
of_sort_lem (inner_wire n m) = refl

pub wire_eq : (v w : Wire) → T (same_wire v w) → v ≡ w
unfolding same_wire
wire_eq v w t =
    let outer = both (eqb (wire_sort v) (wire_sort w) && eqb (wire_owner v) (wire_owner w)) (eqb (wire_node v) (wire_node w)) t in
    let inner = both (eqb (wire_sort v) (wire_sort w)) (eqb (wire_owner v) (wire_owner w)) outer.0 in
    sym (of_sort_lem v)
    ∙ rw (
      eqb→eq (wire_sort v) (wire_sort w) inner.0,
      eqb→eq (wire_owner v) (wire_owner w) inner.1,
      eqb→eq (wire_node v) (wire_node w) outer.1,
    )
    (of_sort_lem w)

pub wire_same : (v w : Wire) → v ≡ w → T (same_wire v w)
unfolding same_wire
wire_same v w e =
    rw e
    (and_both (eqb (wire_sort w) (wire_sort w) && eqb (wire_owner w) (wire_owner w)) (eqb (wire_node w) (wire_node w))
    (and_both (eqb (wire_sort w) (wire_sort w)) (eqb (wire_owner w) (wire_owner w)) (eqb_refl (wire_sort w)) (eqb_refl (wire_owner w)))
    (eqb_refl (wire_node w)))

-- ---- one pair

module _ (a b c d : Wire) where
  abbrev pub EqualPairs : Type 0
  EqualPairs = ((a ≡ c) × (b ≡ d)) ⊎ ((a ≡ d) × (b ≡ c))

  pub pair_eq : T (same_pair a b c d) → EqualPairs
  unfolding same_pair
  pair_eq t = ⊎_elim straight crossed (or_cases (same_wire a c && same_wire b d) (same_wire a d && same_wire b c) t)
    where
      straight : T (same_wire a c && same_wire b d) → EqualPairs
      straight s = let parts = both (same_wire a c) (same_wire b d) s in inl (wire_eq a c parts.0, wire_eq b d parts.1)

      crossed : T (same_wire a d && same_wire b c) → EqualPairs
      crossed s = let parts = both (same_wire a d) (same_wire b c) s in inr (wire_eq a d parts.0, wire_eq b c parts.1)

  pub pair_same : EqualPairs → T (same_pair a b c d)
  unfolding same_pair
  pair_same (inl e) =
      in_first (same_wire a c && same_wire b d) (same_wire a d && same_wire b c)
      (and_both (same_wire a c) (same_wire b d) (wire_same a c e.0) (wire_same b d e.1))
  pair_same (inr e) =
      in_second (same_wire a c && same_wire b d) (same_wire a d && same_wire b c)
      (and_both (same_wire a d) (same_wire b c) (wire_same a d e.0) (wire_same b c e.1))

pub pair_turned : (a b c d : Wire) → EqualPairs a b c d → EqualPairs c d a b
pair_turned a b c d (inl e) = inl (sym e.0, sym e.1)
pair_turned a b c d (inr e) = inr (sym e.1, sym e.0)

pub pair_through : (a b c d x y : Wire) → EqualPairs a b c d → EqualPairs c d x y → EqualPairs a b x y
pair_through a b c d x y (inl e) (inl f) = inl (e.0 ∙ f.0, e.1 ∙ f.1)
pair_through a b c d x y (inl e) (inr f) = inr (e.0 ∙ f.0, e.1 ∙ f.1)
pair_through a b c d x y (inr e) (inl f) = inr (e.0 ∙ f.1, e.1 ∙ f.0)
pair_through a b c d x y (inr e) (inr f) = inl (e.0 ∙ f.1, e.1 ∙ f.0)
