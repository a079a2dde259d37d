-- The stage of the instances, step by step: what has been read where the code's loop stands, and what the stage gives where it stops, fails or goes on.
use Prim.Native.Nat.{ℕ, ◌+◌, ◌≤◌}
use mathlib.Core.Path.{◌≡◌, refl, sym, ap, ◌∙◌}
use mathlib.Core.Bool.{true}
use mathlib.Core.List.{List, [], ◌∷◌, ◌++◌}
use native.Mathlib.Omega.{arith}
use lib.ListN.{length, set, replicate}
use Rattle.std.specs.Prelude.{Option, Some, None}
use Rattle.switch.specs.Modules.{ModuleType}
use Rattle.circuit.specs.Limits.{most_instances}
use Rattle.circuit.specs.Fields.{cut_from}
use Rattle.circuit.specs.Order.{instance_tag, tag_of, is_kind}
use Rattle.circuit.specs.Circuit.{Instance, Listed, fault_count}
use Rattle.circuit.specs.Known.{instance_in}
use Rattle.circuit.specs.Table.{Test, passes, first_of, instance_tests}
use Rattle.circuit.specs.Records.{unused_instance, instance_record}
use Rattle.circuit.specs.Refusals.{verdict_of}
use Rattle.circuit.specs.Stages.{read_to, instance_stage, stage_of}
use Rattle.circuit.specs.declared.Instance.{Instance as InstanceRecord}
use Rattle.circuit.specs.declared.refusal.Refusal.{Refusal}
use Rattle.read_fields.specs.Steps.{end_of, FieldAt, NextIs}
use Rattle.read_fields.specs.declared.Field.{Field as FieldRecord}
use Rattle.read_instances.specs.ReadInstances.{TypesAndLists, InstancesRead}
use Rattle.read_instances.specs.Turns.{held_tests, accepted_in}
use Rattle.read_instances.specs.declared.Accepted.{Accepted}
use Rattle.read_instances.specs.declared.Held.{Held}
use Rattle.read_fields.proofs.Gathering.{SoFar, none_yet, stops, fails, one_more_lem}
use Rattle.circuit.proofs.Tested.{faults_snoc}
use Rattle.circuit.proofs.Verdicts.{some-refused}
use Rattle.read_instances.proofs.InstanceLaws.{given_is, gathered, room, few}

abbrev tests_after : ℕ → List ModuleType → List Listed → List Instance → ℕ → List ℕ → List Test
tests_after P types bridges is = instance_tests (read_to P types bridges is)

-- some instances are read, they and their faults stand in the record, and the stage goes on from them
pub record InstancesSoFar (file : List ℕ) (from P : ℕ) (types : List ModuleType) (bridges : List Listed) (all : List InstanceRecord)
    (count faults at : ℕ) : Type 0 where
  pub instances : List Instance
  pub so : SoFar instance_tag most_instances (tests_after P types bridges) instance_in instance_record unused_instance file from instances all count at
  pub summed : faults ≡ fault_count types bridges instances

-- so of all types and bridges that the code's records and sums tell
pub record AtLoop (file : List ℕ) (from : ℕ) (held : Held) (all : List InstanceRecord) (count faults at : ℕ) : Type 0 where
  pub place : at ≤ length file
  pub few : faults ≤ 2048
  pub read : (ts : List ModuleType) (bs : List Listed) → TypesAndLists ts bs held → InstancesSoFar file from held.inputs ts bs all count faults at

pub no_instances : (file : List ℕ) (from : ℕ) (held : Held) (unused : InstanceRecord) → from ≤ length file → unused ≡ unused_instance
    → AtLoop file from held (replicate most_instances unused) 0 0 from
unfolding fault_count
no_instances file from held unused h e = record {
  place = h;
  few = omega arith;
  read = λ ts bs told. record {
    instances = [];
    so = none_yet instance_tag most_instances (tests_after held.inputs ts bs) instance_in instance_record unused_instance file from unused h e;
    summed = refl;
  };
}

module _ {file : List ℕ} {from : ℕ} {held : Held} {all : List InstanceRecord} {count faults at : ℕ}
    (inv : AtLoop file from held all count faults at) where
  -- they are all, where the stage ended so
  abbrev Ended : Option Refusal → Type 0
  Ended why =
      (ts : List ModuleType) (bs : List Listed) → TypesAndLists ts bs held
      → InstancesRead file from held.inputs ts bs (record { refusal = why; at = at; count = count; faults = faults; all = all })

  ended : (why : Option Refusal)
      → ((ts : List ModuleType) (bs : List Listed) (told : TypesAndLists ts bs held)
      → instance_stage held.inputs ts bs [] (cut_from file from) ≡ stage_of (verdict_of why) (inv.read ts bs told).instances (cut_from file at))
      → Ended why
  ended why stage ts bs told =
      let read = inv.read ts bs told in
      record {
        instances = read.instances;
        stage = stage ts bs told;
        place = inv.place;
        within = read.so.within;
        count = read.so.counted;
        faults = read.summed;
        all = read.so.is;
      }

  pub instances_end : NextIs file at (is_kind instance_tag) None → Ended None
  instances_end none = ended None (λ ts bs told. stops (inv.read ts bs told).so none)

  -- where a field stands
  module _ (f : FieldRecord) (here : FieldAt file at f) (own : is_kind instance_tag (tag_of f.tag) ≡ true) where
    judged : (ts : List ModuleType) (bs : List Listed) (told : TypesAndLists ts bs held)
        → first_of (held_tests held count faults f.at f.body.now)
        ≡ first_of (tests_after held.inputs ts bs (inv.read ts bs told).instances f.at f.body.now)
    judged ts bs told =
        let read = inv.read ts bs told in
        ap first_of (gathered told f.body.now f.at read.instances count faults read.so.counted read.summed)

    pub instances_refused : (why : Refusal) → first_of (held_tests held count faults f.at f.body.now) ≡ verdict_of (Some why) → Ended (Some why)
    instances_refused why e =
        ended (Some why) (λ ts bs told. fails (inv.read ts bs told).so f here own (verdict_of (Some why)) (sym e ∙ judged ts bs told) (some-refused why))

    pub instances_more : (accepted : Accepted) → first_of (held_tests held count faults f.at f.body.now) ≡ passes → accepted ≡ accepted_in held f.body.now
        → AtLoop file from held (set all count accepted.instance) (count + 1) (faults + accepted.faults) (end_of f)
    instances_more accepted e is =
        rw is record {
          place = here.inside;
          few = few held count faults f.at f.body.now e;
          read = λ ts bs told.
              let read = inv.read ts bs told in
              let one : Instance = instance_in f.body.now in
              record {
                instances = read.instances ++ (one ∷ []);
                so = one_more_lem read.so f here own passes (sym e ∙ judged ts bs told) refl (room held count faults f.at f.body.now e);
                summed = rw (given_is told f.body.now) (let summed = read.summed in omega (arith, faults_snoc ts bs read.instances one));
              };
        }
