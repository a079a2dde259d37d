-- To be of one class, to join the same two wires, is an equivalence on rows; and rows of one class have equal marks, because a mark is a symmetric
-- function of what its two wires carry. Assumes nothing.
use mathlib.Core.Path.{◌≡◌, refl, sym, ◌∙◌}
use mathlib.Core.Logic.{inl, inr}
use mathlib.Core.List.{List}
use lib.Dec.{T}
use Rattle.switch.specs.Conduction.{Value}
use Rattle.circuit.specs.Circuit.{Circuit}
use Rattle.grading.specs.Rows.{Row}
use Rattle.grading.specs.Wires.{Wire, one_end, other_end, wire_of, carried, leaks}
use Rattle.grading.specs.Classes.{same_class}
use Rattle.grading.specs.Statements.{SameClassIsEquivalence, ClassesHaveEqualMarks}
use Rattle.grading.proofs.WireLaws.{EqualPairs, pair_eq, pair_same, pair_turned, pair_through}
use Rattle.grading.proofs.WireLevels.{cells_are_of_wires}

-- two rows whose wires are equal, either way round
abbrev pub EqualEnds : Row → Row → Type 0
EqualEnds r s = EqualPairs (wire_of r one_end) (wire_of r other_end) (wire_of s one_end) (wire_of s other_end)

pub same_ends : (r s : Row) → T (same_class r s) → EqualEnds r s
unfolding same_class
same_ends r s = pair_eq (wire_of r one_end) (wire_of r other_end) (wire_of s one_end) (wire_of s other_end)

pub ends_same : (r s : Row) → EqualEnds r s → T (same_class r s)
unfolding same_class
ends_same r s = pair_same (wire_of r one_end) (wire_of r other_end) (wire_of s one_end) (wire_of s other_end)

pub same_class_is_equivalence : SameClassIsEquivalence
same_class_is_equivalence P = record {
  itself = λ r p. ends_same r r (inl (refl, refl));
  turned = λ r s p q t. ends_same s r (pair_turned _ _ _ _ (same_ends r s t));
  through = λ q r s a b d t u. ends_same q s (pair_through _ _ _ _ _ _ (same_ends q r t) (same_ends r s u));
}

-- ---- equal marks

module _ (c : Circuit) (vector : List Value) where
  abbrev level : Wire → Value
  level = carried c vector

  -- what leaks from one pair leaks from an equal one
  pub leaks_alike : (v w x y : Wire) → EqualPairs v w x y → leaks (level v) (level w) ≡ leaks (level x) (level y)
  leaks_alike v w x y (inl e) = rw (e.0, e.1)
  leaks_alike v w x y (inr e) = rw (e.0, e.1) (cells_are_of_wires.either_way (level y) (level x))

pub classes_have_equal_marks : ClassesHaveEqualMarks
classes_have_equal_marks c good r s p q t vector =
    cells_are_of_wires.cell_is c good r p vector
    ∙ leaks_alike c vector _ _ _ _ (same_ends r s t)
    ∙ sym (cells_are_of_wires.cell_is c good s q vector)
