-- A turn of the stage that reads instances: what a field asks of its type and its list, its tests, and what is kept of it.
use Rattle.std.specs.Prelude.{ℕ, cond, List, map, length, get_or, Option, Some, None}
use Rattle.switch.specs.Conduction.{between}
use Rattle.switch.specs.Modules.{all_of}
use Rattle.switch.specs.declared.ModuleType.{ModuleType as TypeRecord}
use Rattle.circuit.specs.Circuit.{Reference, numbered}
use Rattle.circuit.specs.Numbers.{reference_good}
use Rattle.circuit.specs.Known.{instance_in}
use Rattle.circuit.specs.Table.{Test, instance_tests_of}
use Rattle.circuit.specs.Records.{padded, unused_type, unused_reference, reference_record, instance_record}
use Rattle.circuit.specs.declared.Reference.{Reference as ReferenceRecord}
use Rattle.read_instances.specs.Choices.{Chosen, given_by}
use Rattle.read_instances.specs.declared.Accepted.{Accepted}
use Rattle.read_instances.specs.declared.Held.{Held}

-- the type with a number, if there is one
abbrev pub type_numbered : List TypeRecord → ℕ → Option TypeRecord
type_numbered types n = cond (between 1 (length types) n) (Some (numbered types n unused_type)) None

-- the reference that is good, or the references that all are, as records
abbrev pub good_record : ℕ → ℕ → Reference → Option ReferenceRecord
good_record P before r = cond (reference_good P before r) (Some (reference_record r)) None

abbrev pub good_records : ℕ → ℕ → List Reference → Option (List ReferenceRecord)
good_records P before rs =
    cond (all_of (reference_good P before) rs) (Some (padded 12 unused_reference (map reference_record rs))) None

-- the type that a body names
abbrev pub type_named : Held → List ℕ → TypeRecord
type_named held body = numbered held.types.now (get_or body 0 0) unused_type

-- what its choice gives in that type
abbrev pub given_in : Held → List ℕ → Chosen
given_in held body = given_by (type_named held body) (get_or body 1 0) held.lists.now

-- the tests of an instance field, from what the code is held to
abbrev pub held_tests : Held → ℕ → ℕ → ℕ → List ℕ → List Test
held_tests held count faults at body =
    instance_tests_of held.inputs (length held.types.now) (type_named held body).labels count faults (given_in held body).unsuited
    (given_in held body).empty (given_in held body).faults at body

-- what is kept of a field that passes them
abbrev pub accepted_in : Held → List ℕ → Accepted
accepted_in held body = record { instance = instance_record (instance_in body); faults = (given_in held body).faults }
