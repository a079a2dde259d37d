-- Two answers that meet the promise of `read_instances` are the same answer, where it refuses too.
use Prim.Native.Nat.{ℕ}
use mathlib.Core.Path.{◌≡◌, sym, ap, ◌∙◌}
use mathlib.Core.List.{List, map}
use lib.ListN.{length}
use Rattle.switch.specs.Modules.{ModuleType}
use Rattle.circuit.specs.Limits.{most_instances}
use Rattle.circuit.specs.Circuit.{Instance, Listed, fault_count}
use Rattle.circuit.specs.Records.{padded, unused_instance, instance_record}
use Rattle.read_instances.specs.ReadInstances.{TypesAndLists, HeldAt, InstancesRead}
use Rattle.read_instances.specs.declared.Held.{Held}
use Rattle.read_instances.specs.declared.Instances.{Instances}
use Rattle.circuit.proofs.AnswerLaws.{verdict-tells}
use Rattle.read_fields.proofs.Places.{ended_once}

-- for types and bridges that the arguments tell
read_once : (file : List ℕ) (from P : ℕ) (types : List ModuleType) (bridges : List Listed) (r s : Instances)
    → InstancesRead file from P types bridges r → InstancesRead file from P types bridges s → r ≡ s
read_once file from P types bridges r s p q =
    let same = ended_once file r.at s.at p.place q.place p.stage q.stage in
    let refusal = verdict-tells r.refusal s.refusal same.0 in
    let at = same.2 in
    let count = p.count ∙ ap length same.1 ∙ sym q.count in
    let faults = p.faults ∙ ap (fault_count types bridges) same.1 ∙ sym q.faults in
    let all = p.all ∙ ap (λ (l : List Instance). padded most_instances unused_instance (map instance_record l)) same.1 ∙ sym q.all in
    λ i. record { refusal = refusal i; at = at i; count = count i; faults = faults i; all = all i }

-- the arguments tell some, since they are asked to
pub instances_once : (file : List ℕ) (from : ℕ) (held : Held) → HeldAt held → (r s : Instances)
    → ((ts : List ModuleType) (bs : List Listed) → TypesAndLists ts bs held → InstancesRead file from held.inputs ts bs r)
    → ((ts : List ModuleType) (bs : List Listed) → TypesAndLists ts bs held → InstancesRead file from held.inputs ts bs s)
    → r ≡ s
instances_once file from held h r s p q =
    read_once file from held.inputs h.types h.bridges r s (p h.types h.bridges h.told) (q h.types h.bridges h.told)
