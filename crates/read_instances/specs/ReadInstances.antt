-- What the function that reads instances promises: what instances are held to, the list that was read, and how it stands in the record.
use Rattle.std.specs.Prelude.{ℕ, ◌≤◌, ◌≡◌, List, [], map, length}
use Rattle.switch.specs.Modules.{ModuleType}
use Rattle.circuit.specs.Limits.{most_bridges, most_instances}
use Rattle.circuit.specs.Fields.{cut_from}
use Rattle.circuit.specs.Circuit.{Instance, Listed, numbered, no_type, fault_count}
use Rattle.circuit.specs.Records.{padded, unused_type, unused_instance, instance_record}
use Rattle.circuit.specs.Refusals.{verdict_of}
use Rattle.circuit.specs.Laws.{Each, TypeGood}
use Rattle.circuit.specs.Stages.{stage_of, instance_stage}
use Rattle.read_bridges.specs.ListSums.{lists_of}
use Rattle.read_instances.specs.declared.Instances.{Instances}
use Rattle.read_instances.specs.declared.Held.{Held}

-- what the code's records and sums tell of types and bridges: of a type only its highest node and its number of labels
pub record TypesAndLists (types : List ModuleType) (bridges : List Listed) (held : Held) : Type 0 where
  pub counted : length held.types.now ≡ length types
  pub nodes_of : (n : ℕ) → (numbered held.types.now n unused_type).highest ≡ (numbered types n no_type).highest
  pub labels_by_number : (n : ℕ) → (numbered held.types.now n unused_type).labels ≡ (numbered types n no_type).labels
  pub good : Each (λ (i : ℕ) (t : ModuleType). TypeGood t) types
  pub few : length bridges ≤ most_bridges
  pub summed : held.lists.now ≡ lists_of bridges

-- some types and bridges are told by the records and sums
pub record HeldAt (held : Held) : Type 0 where
  pub types : List ModuleType
  pub bridges : List Listed
  pub told : TypesAndLists types bridges held

-- the instances from an offset on
pub record InstancesRead (file : List ℕ) (from P : ℕ) (types : List ModuleType) (bridges : List Listed) (r : Instances) : Type 0 where
  pub instances : List Instance
  pub stage : instance_stage P types bridges [] (cut_from file from) ≡ stage_of (verdict_of r.refusal) instances (cut_from file r.at)
  pub place : r.at ≤ length file
  pub within : length instances ≤ most_instances
  pub count : r.count ≡ length instances
  pub faults : r.faults ≡ fault_count types bridges instances
  pub all : r.all ≡ padded most_instances unused_instance (map instance_record instances)
