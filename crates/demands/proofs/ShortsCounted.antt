-- Proves MoreShortsCountNoFewer and SameShortsCountAlike: each class of the first circuit goes to a class of the second, by a row that joins the same
-- two wires, and its marks go along, since the wires carry the same in both.
use Prim.Native.Nat.{ℕ}
use mathlib.Core.Path.{◌≡◌, sym, ap, ap₂, ◌∙◌}
use mathlib.Core.List.{List, []}
use native.Mathlib.Omega.{arith}
use lib.Dec.{T}
use lib.ListN.{length, get_or}
use Rattle.words.specs.Bits.{of_bool}
use Rattle.switch.specs.Conduction.{Value}
use Rattle.circuit.specs.Circuit.{Circuit}
use Rattle.circuit.specs.Laws.{CircuitGood}
use Rattle.grading.specs.Rows.{Row, no_row, cell, mark_of}
use Rattle.grading.specs.Wires.{one_end, other_end, wire_of, leaks}
use Rattle.grading.specs.Classes.{same_class}
use Rattle.grading.specs.Statements.{RowOf}
use Rattle.grading.proofs.Everywhere.{place_of_lem}
use Rattle.grading.proofs.WireLevels.{cells_are_of_wires}
use Rattle.grading.proofs.SameClass.{same_ends, leaks_alike}
use Rattle.demands.specs.Two.{row_at}
use Rattle.demands.specs.OneWire.{AlikeButLists, ShortsAmong, MoreShortsCountNoFewer, SameShortsCountAlike}
use Rattle.demands.proofs.RowFaults.{row_of_lem}
use Rattle.demands.proofs.OneClass.{one-class-is-tested}
use Rattle.demands.proofs.Gave.{gave, classes_counted, found_counted}
use Rattle.demands.proofs.ClassesCarried.{Carries, classes_carried, found_carried}
use Rattle.demands.proofs.AlikeLists.{carried_alike}

module _ (c d : Circuit) (good : CircuitGood c) (good' : CircuitGood d) (alike : AlikeButLists c d) where
  cell_alike : (row other : Row) → RowOf c row → RowOf d other → T (same_class row other) → (vector : List Value) → cell c vector row ≡ cell d vector other
  cell_alike row other p q t vector =
      cells_are_of_wires.cell_is c good row p vector
      ∙ leaks_alike c vector _ _ _ _ (same_ends row other t)
      ∙ ap₂ leaks (carried_alike c d alike vector (wire_of other one_end)) (carried_alike c d alike vector (wire_of other other_end))
      ∙ sym (cells_are_of_wires.cell_is d good' other q vector)

  mark_alike : (row other : Row) → RowOf c row → RowOf d other → T (same_class row other) → (v : ℕ) → mark_of c row v ≡ mark_of d other v
  unfolding mark_of
  mark_alike row other p q t v =
      ap of_bool (cell_alike row other p q t (get_or c.vectors v []) ∙ ap (λ (vs : List (List Value)). cell d (get_or vs v []) other) alike.vectors)

  module _ (among : ShortsAmong c d) where
    partner : (row : Row) → RowOf c row → (other : Row) × RowOf d other × T (same_class row other)
    partner row m =
        let place = place_of_lem no_row m in
        let there = among place.0 place.1 in
        let tested : T (same_class (row_at c place.0) (row_at d there.0)) = (one-class-is-tested _ _).0 there.2 in (
          row_at d there.0,
          row_of_lem d there.0 there.1,
          rw place.2 at tested,
        )

    carries : Carries c d
    carries = record {
      partner = partner;
      no_fewer = omega (arith, ap length alike.vectors);
      marks_go = λ row other p q t v h e. sym (mark_alike row other p q t v) ∙ e;
    }

pub more_shorts_count_no_fewer : MoreShortsCountNoFewer
more_shorts_count_no_fewer one other c d g k alike among =
    let from = gave one c g in
    let to = gave other d k in
    let goes = carries c d from.good to.good alike among in
    record {
      classes = omega (arith, classes_counted one c from, classes_counted other d to, classes_carried c d goes);
      found = omega (arith, found_counted one c from, found_counted other d to, found_carried c d goes);
    }

turned : (c d : Circuit) → AlikeButLists c d → AlikeButLists d c
turned c d alike = record {
  inputs = sym alike.inputs;
  types = sym alike.types;
  vectors = sym alike.vectors;
  as_many = sym alike.as_many;
  modules = λ n. sym (alike.modules n);
  references = λ n. sym (alike.references n);
}

pub same_shorts_count_alike : SameShortsCountAlike
same_shorts_count_alike one other c d g k alike among back =
    let up = more_shorts_count_no_fewer one other c d g k alike among in
    let down = more_shorts_count_no_fewer other one d c k g (turned c d alike) back in
    record { classes = omega (arith, up.classes, down.classes); found = omega (arith, up.found, down.found) }
