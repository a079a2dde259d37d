-- The instance of a row: the one with the row's number, whose type is the row's; in a good circuit it is a good instance, so that a label of it refers to a
-- primary input or to an earlier instance. Assumes nothing.
use Prim.Native.Nat.{ℕ, suc, ◌+◌, ◌-◌, ◌<◌, ◌≤◌}
use mathlib.Core.Path.{◌≡◌, refl, sym, ap, ◌∙◌}
use mathlib.Core.Logic.{◌⊎◌, inl, inr}
use mathlib.Core.List.{List, [], ◌∷◌}
use native.Mathlib.Decide.{dec_lt}
use native.Mathlib.Omega.{arith}
use lib.Dec.{T}
use lib.ListN.{length, get_or, get_or-eq_default}
use Rattle.switch.specs.Modules.{ModuleType, all_of}
use Rattle.switch.proofs.Deciding.{all_of_lem}
use Rattle.circuit.specs.Circuit.{Circuit, Instance, Listed, Reference, primary, type_of_instance, faults_of}
use Rattle.circuit.specs.Numbers.{reference_good}
use Rattle.circuit.specs.Laws.{CircuitGood, InstanceGood}
use Rattle.grading.specs.Rows.{Row, row_with, no_instance, rows_of_instance, rows_from, rows_of}
use Rattle.grading.specs.Statements.{RowOf}
use Rattle.grading.proofs.Everywhere.{Every, every_nil, every_append, every_map}
use Rattle.grading.proofs.ValueLaws.{instance_good}

-- ---- references

-- a good reference, or none, which input 0 stands for
abbrev pub Referred : ℕ → ℕ → Reference → Type 0
Referred P before r = T (reference_good P before r) ⊎ (r ≡ primary 0)

pub referred : (P before : ℕ) (references : List Reference) → T (all_of (reference_good P before) references)
    → (l : ℕ) → Referred P before (get_or references l (primary 0))
referred P before references good l = go (dec_lt l (length references))
  where
    go : Dec (l < length references) → Referred P before (get_or references l (primary 0))
    go (yes h) = inl ((all_of_lem (reference_good P before) (primary 0) references).0 good l h)
    go (no h) = inr (get_or-eq_default references (primary 0) {n = l} (omega arith))

-- ---- rows

-- a row of the instances from number n on: its number, the instance at it, and that instance's type
pub record Placed (types : List ModuleType) (n : ℕ) (is : List Instance) (none : Instance) (row : Row) : Type 0 where
  pub low : n ≤ row.number
  pub high : row.number < n + length is
  pub instance_is : row.instance ≡ get_or is (row.number - n) none
  pub type_is : row.type ≡ type_of_instance types row.instance

module _ (types : List ModuleType) (bridges : List Listed) (none : Instance) where
  pub rows_placed : (n : ℕ) (is : List Instance) → Every (Placed types n is none) (rows_from types bridges n is)
  unfolding rows_from rows_of_instance
  rows_placed n [] = every_nil (Placed types n [] none)
  rows_placed n (i ∷ is) =
      every_append
      (Placed types n (i ∷ is) none)
      (rows_of_instance types bridges n i)
      (rows_from types bridges (suc n) is)
      (every_map
      (Placed types n (i ∷ is) none)
      (row_with types n i)
      (faults_of types bridges i)
      (λ b m. record { low = omega arith; high = omega arith; instance_is = here; type_is = refl }))
      (λ row m. later row (rows_placed (suc n) is row m))
    where
      zero_place : n - n ≡ 0
      zero_place = omega arith

      here : i ≡ get_or (i ∷ is) (n - n) none
      here = rw zero_place

      later : (row : Row) → Placed types (suc n) is none row → Placed types n (i ∷ is) none row
      later row p =
          let next : row.number - n ≡ suc (row.number - suc n) = omega (arith, p.low) in
          record {
            low = omega (arith, p.low);
            high = omega (arith, p.high);
            instance_is = p.instance_is ∙ ap (λ (k : ℕ). get_or (i ∷ is) k none) (sym next);
            type_is = p.type_is;
          }

module _ (c : Circuit) (row : Row) (is_row : RowOf c row) where
  pub row_placed : Placed c.types 1 c.instances no_instance row
  unfolding rows_of
  row_placed = rows_placed c.types c.bridges no_instance 1 c.instances row is_row

  pub row_within : row.number - 1 < length c.instances
  row_within = omega (arith, row_placed.low, row_placed.high)

  module _ (good : CircuitGood c) where
    pub row_good : InstanceGood c.inputs c.types c.bridges (row.number - 1) row.instance
    row_good = instance_good c good (row.number - 1) row_within no_instance row.instance (sym row_placed.instance_is)

    pub row_reference : (l : ℕ) → Referred c.inputs (row.number - 1) (get_or row.instance.references l (primary 0))
    row_reference = referred c.inputs (row.number - 1) row.instance.references row_good.references
