-- What is read of a circuit's record: the counts, the user lists' bridges, an instance, and its type.
use Prim.Native.Nat.{ℕ, zero, suc, ◌-◌, ◌≤◌, ◌<◌}
use mathlib.Core.Path.{◌≡◌, ap, ◌∙◌}
use mathlib.Core.List.{List, map}
use native.Mathlib.Omega.{arith}
use lib.ListN
use lib.ListN.{length, get_or, take, length-map}
use Rattle.switch.specs.Modules.{ModuleType}
use Rattle.switch.specs.declared.ModuleType.{ModuleType as TypeRecord}
use Rattle.circuit.specs.Limits.{most_types, most_instances, most_bridges}
use Rattle.circuit.specs.Circuit.{Circuit, Instance, numbered, no_type, type_of_instance, primary}
use Rattle.circuit.specs.Records.{padded, unused_type, type_record, unused_bridge, bridge_record, unused_instance, choice_byte, instance_record, circuit_record}
use Rattle.circuit.specs.Records.{reference_record, unused_reference}
use Rattle.circuit.specs.Laws.{CircuitGood}
use Rattle.circuit.specs.declared.Circuit.{Circuit as CircuitRecord}
use Rattle.circuit.specs.declared.Instance.{Instance as InstanceRecord}
use Rattle.circuit.specs.declared.Reference.{Reference as ReferenceRecord}
use Rattle.circuit.proofs.Padding.{get_or-padded}
use Rattle.switch.proofs.Channels.{in_between}
use Rattle.circuit.proofs.TypeLaws.{take_padded}
use Rattle.grading.proofs.FaultRanges.{types-fit}
use Rattle.grading.proofs.Lists.{get_or-map_any}

-- an element of a list in the first of n places
placed : {A B : Type 0} (f : A → B) (n : ℕ) (none d : B) (as' : List A) (i : ℕ) (a : A) → i < length as' → length as' ≤ n
    → get_or (padded n none (map f as')) i d ≡ f (get_or as' i a)
placed f n none d as' i a h few = get_or-padded none n (map f as') d i (omega arith) ∙ get_or-map_any f as' i a none h

type_placed : (types : List ModuleType) (d : TypeRecord) (n : ℕ) → 1 ≤ n → n ≤ length types → length types ≤ most_types
    → get_or (padded most_types unused_type (map type_record types)) (n - 1) d ≡ type_record (numbered types n no_type)
unfolding numbered
type_placed types d zero low high few = absurd (omega arith)
type_placed types d (suc m) low high few =
    rw (let e : suc m - 1 ≡ m = omega arith in e) (placed type_record most_types unused_type d types m no_type high few)

-- the record r tells the circuit c
module _ (c : Circuit) (good : CircuitGood c) (r : CircuitRecord) (is : r ≡ circuit_record c) where
  pub count_is : r.instance_count ≡ length c.instances
  unfolding circuit_record
  count_is = ap (λ (x : CircuitRecord). x.instance_count) is

  pub count_few : r.instance_count ≤ 128
  count_few = omega (arith, count_is, good.few_instances)

  pub bridges_few : r.bridge_count ≤ 256
  unfolding circuit_record
  bridges_few = omega (arith, ap (λ (x : CircuitRecord). x.bridge_count) is, good.few_bridges)

  pub bridges_are : take r.bridge_count r.bridges ≡ map bridge_record c.bridges
  unfolding circuit_record
  bridges_are =
      let few = good.few_bridges in
      let same = length-map c.bridges bridge_record in
      ap (λ (x : CircuitRecord). take x.bridge_count x.bridges) is
      ∙ rw same at (take_padded unused_bridge most_bridges (map bridge_record c.bridges) (omega arith))

  module _ (i : ℕ) (d : Instance) (h : i < length c.instances) (e : InstanceRecord) where
    pub instance_is : get_or r.instances i e ≡ instance_record (get_or c.instances i d)
    unfolding circuit_record
    instance_is =
        ap (λ (x : CircuitRecord). get_or x.instances i e) is
        ∙ placed instance_record most_instances unused_instance e c.instances i d h good.few_instances

    pub type_is : (get_or r.instances i e).type_number ≡ (get_or c.instances i d).type
    unfolding instance_record
    type_is = ap (λ (x : InstanceRecord). x.type_number) instance_is

    pub choice_is : (get_or r.instances i e).choice ≡ choice_byte (get_or c.instances i d).choice
    unfolding instance_record
    choice_is = ap (λ (x : InstanceRecord). x.choice) instance_is

    type_range : (1 ≤ (get_or c.instances i d).type) × ((get_or c.instances i d).type ≤ length c.types)
    type_range = in_between 1 (length c.types) (get_or c.instances i d).type (good.instances i d h).type

    pub type_place : (1 ≤ (get_or r.instances i e).type_number) × ((get_or r.instances i e).type_number ≤ 16)
    type_place =
        let few = good.few_types in
        let same = type_is in
        let range = type_range in
        (omega arith, omega arith)

    module _ (u : TypeRecord) where
      abbrev pub type_read : TypeRecord
      type_read = get_or r.types ((get_or r.instances i e).type_number - 1) u

      pub type_read_lem : type_read ≡ type_record (type_of_instance c.types (get_or c.instances i d))
      unfolding circuit_record
      type_read_lem =
          ap (λ (x : CircuitRecord). get_or x.types ((get_or r.instances i e).type_number - 1) u) is
          ∙ rw type_is (type_placed c.types u (get_or c.instances i d).type type_range.0 type_range.1 good.few_types)

      pub highest_is : type_read.highest ≡ (type_of_instance c.types (get_or c.instances i d)).highest
      unfolding type_record
      highest_is = ap (λ (x : TypeRecord). x.highest) type_read_lem

      pub labels_are : type_read.labels ≡ (type_of_instance c.types (get_or c.instances i d)).labels
      unfolding type_record
      labels_are = ap (λ (x : TypeRecord). x.labels) type_read_lem

      pub type_few : (type_read.highest < 32) × (type_read.labels ≤ 12)
      type_few =
          let fits = types-fit c good i d h in
          (omega (arith, highest_is, fits.nodes_are), omega (arith, labels_are, fits.labels_are))

-- ---- references

-- an instance's references in the code's twelve places
abbrev pub references_of : Instance → List ReferenceRecord
references_of i = padded 12 unused_reference (map reference_record i.references)

-- the reference of a label, in its place
pub reference_at_lem : (i : Instance) (l : ℕ) → l < 12 → get_or (references_of i) l unused_reference ≡ reference_record (get_or i.references l (primary 0))
unfolding reference_record
reference_at_lem i l h =
    get_or-padded unused_reference 12 (map reference_record i.references) unused_reference l h ∙ ListN.get_or-map reference_record i.references l (primary 0)
