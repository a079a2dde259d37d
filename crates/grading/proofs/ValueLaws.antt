-- The type of a good instance, and the values of its labels. Assumes nothing.
use Prim.Native.Nat.{ℕ, ◌<◌, ◌≤◌}
use mathlib.Core.Path.{◌≡◌, subst}
use mathlib.Core.List.{List, map}
use native.Mathlib.Omega.{arith}
use lib.ListN.{length, get_or, length-map, get_or-eq_default, get_or-map}
use Rattle.switch.specs.Conduction.{Value, at_x}
use Rattle.switch.specs.Modules.{ModuleType}
use Rattle.switch.specs.Statements.{Accepted}
use Rattle.switch.proofs.Deciding.{complementary_decides}
use Rattle.switch.proofs.Ranges.{TypeRanges, given_type}
use Rattle.circuit.specs.Circuit.{Circuit, primary, Instance, numbered, type_of_instance}
use Rattle.circuit.specs.Records.{type_record}
use Rattle.circuit.specs.Laws.{CircuitGood, TypeGood, TypeSound, InstanceGood}
use Rattle.circuit.proofs.CircuitLaws.{instance-type}
use Rattle.circuit.proofs.TypeLaws.{type_given}
use Rattle.grading.specs.Values.{value_at, label_values}

-- ---- the type of a good instance

pub type-ranges : (t : ModuleType) → TypeSound t → TypeRanges t.highest t.output t.labels
unfolding type_record
type-ranges t sound = given_type (type_record t) (type_given t sound.ranges sound.few)

pub type-accepted : (t : ModuleType) → TypeGood t → Accepted t
type-accepted t g = record { ranges = g.sound.ranges; complementary = (complementary_decides t).1 g.complementary }

module _ (c : Circuit) (good : CircuitGood c) (i : ℕ) (within : i < length c.instances) (none inst : Instance)
    (is : get_or c.instances i none ≡ inst) where
  pub instance_good : InstanceGood c.inputs c.types c.bridges i inst
  instance_good = subst (InstanceGood c.inputs c.types c.bridges i) is (good.instances i none within)

  pub type_good : TypeGood (type_of_instance c.types inst)
  type_good = instance-type c good inst instance_good.type

-- the instance at place i, from 0, of a good circuit
pub record InstanceAt (c : Circuit) (i : ℕ) (inst : Instance) : Type 0 where
  pub good : CircuitGood c
  pub within : i < length c.instances
  pub none : Instance
  pub is : get_or c.instances i none ≡ inst

module _ (c : Circuit) (i : ℕ) (inst : Instance) (at : InstanceAt c i inst) where
  pub good_at : InstanceGood c.inputs c.types c.bridges i inst
  good_at = instance_good c at.good i at.within at.none inst at.is

  pub type_at : TypeGood (type_of_instance c.types inst)
  type_at = type_good c at.good i at.within at.none inst at.is

-- ---- labels

module _ (vector outputs : List Value) (inst : Instance) where
  -- past the last reference stands a reference to nothing
  pub label_value : (l : ℕ) → label_values vector outputs inst l ≡ value_at vector outputs (get_or inst.references l (primary 0))
  unfolding label_values value_at numbered
  label_value l = get_or-map (value_at vector outputs) inst.references l (primary 0)

  pub label_past : (l : ℕ) → length inst.references ≤ l → label_values vector outputs inst l ≡ at_x
  unfolding label_values
  label_past l h =
      get_or-eq_default (map (value_at vector outputs) inst.references) at_x
      (omega (arith, length-map inst.references (value_at vector outputs)))
