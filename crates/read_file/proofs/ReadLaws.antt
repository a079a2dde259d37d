-- The laws of reading as a whole: the empty circuit; the stages one after the other, of which the first refusal counts, and the answer
-- put together from them; and how the file begins, and what is gathered of it.
use Prim.Native.Nat.{ℕ, ◌<◌, ◌≤◌}
use mathlib.Core.Path.{◌≡◌, refl, sym, ap, ◌∙◌}
use mathlib.Core.Bool.{Bool, true, false, cond, not, ◌&&◌}
use mathlib.Core.List.{List, [], ◌∷◌, map}
use native.Mathlib.Omega.{arith}
use borrow.Author.Tests.{lt-ltb, le-ltb, leb-true, not-false}
use lib.Dec.{eqb, leb}
use lib.ListN.{length, replicate, take, length-map}
use Rattle.std.specs.Prelude.{Option, Some, None}
use Rattle.std.specs.Option.{option_or}
use Rattle.switch.specs.Conduction.{Value, between}
use Rattle.switch.specs.Modules.{ModuleType}
use Rattle.circuit.specs.Limits.{most_bytes, most_types, most_bridges, most_instances, most_vectors}
use Rattle.circuit.specs.Fields.{Cut, clean, broken, field, cut_from, two_bytes}
use Rattle.circuit.specs.Circuit.{Circuit, Instance, Listed, fault_count}
use Rattle.circuit.specs.Order.{inputs_tag, tag_of, is_kind, is_unknown}
use Rattle.circuit.specs.Table.{Verdict, passes, refused_at, first_of, test, is_empty, inputs_tests}
use Rattle.circuit.specs.Reading.{Reading, accepted, refusal, unless, reading_with}
use Rattle.circuit.specs.Records.{unused_type, unused_bridge, unused_instance, unused_vector}
use Rattle.circuit.specs.Records.{type_record, bridge_record, circuit_record, empty_circuit}
use Rattle.circuit.specs.Refusals.{verdict_of}
use Rattle.circuit.specs.Verdicts.{is_refused}
use Rattle.circuit.specs.Answers.{Tells, Answers}
use Rattle.circuit.specs.Before.{read_before}
use Rattle.circuit.specs.Stages.{Stage, stage_of, if_passes, section, judged, type_stage, bridge_stage, instance_stage, vector_stage}
use Rattle.circuit.specs.Stages.{ended_verdict, past_verdict, ending_verdict, after_stage, after_inputs, from_start, staged}
use Rattle.circuit.specs.Stages.{gathered_from, gathered_at_start, gathered_of}
use Rattle.read_fields.specs.Steps.{field_in, end_of, FieldAt, NextIs}
use Rattle.read_types.specs.ReadTypes.{TypesRead}
use Rattle.read_bridges.specs.ReadBridges.{BridgesRead}
use Rattle.read_bridges.specs.ListSums.{SummedTo}
use Rattle.read_instances.specs.ReadInstances.{TypesAndLists, InstancesRead}
use Rattle.read_vectors.specs.ReadVectors.{VectorsRead}
use Rattle.read_file.specs.ReadStages.{ReadByStages}
use Rattle.read_file.specs.Whole.{StartRead, whole_of}
use Rattle.circuit.specs.declared.Circuit.{Circuit as CircuitRecord}
use Rattle.circuit.specs.declared.Reading.{Reading as ReadingRecord}
use Rattle.read_fields.specs.declared.Field.{Field as FieldRecord}
use Rattle.circuit.specs.declared.refusal.Refusal.{Refusal}
use Rattle.circuit.specs.declared.refusal.Refusal.TheVariants.{TooLong}
use Rattle.read_types.specs.declared.types.Types.{Types}
use Rattle.read_bridges.specs.declared.Bridges.{Bridges}
use Rattle.read_instances.specs.declared.Instances.{Instances}
use Rattle.read_instances.specs.declared.Held.{Held}
use Rattle.read_file.specs.declared.read.Start.{Start}
use Rattle.read_vectors.specs.declared.Vectors.{Vectors}
use Rattle.circuit.proofs.Padding.{padded_nil}
use Rattle.circuit.proofs.Verdicts.{first_passes}
use Rattle.circuit.proofs.StageLaws.{staged_is_reading}
use Rattle.circuit.proofs.TypeLaws.{take_padded}
use Rattle.circuit.proofs.BeforeLaws.{stage-types}
use Rattle.circuit.proofs.GatheredLaws.{gathered_is_before}
use Rattle.read_fields.proofs.Cuts.{cut_clean}
use Rattle.read_instances.proofs.InstanceLaws.{named}

-- ---- the empty circuit

-- with nothing in it each place holds what unused places hold
pub empty_record : circuit_record empty_circuit ≡ record {
  inputs = 0;
  type_count = 0;
  types = replicate most_types unused_type;
  bridge_count = 0;
  bridges = replicate most_bridges unused_bridge;
  instance_count = 0;
  instances = replicate most_instances unused_instance;
  faults = 0;
  vector_count = 0;
  vectors = replicate most_vectors unused_vector;
}
unfolding circuit_record fault_count
empty_record = rw (
  padded_nil unused_type most_types,
  padded_nil unused_bridge most_bridges,
  padded_nil unused_instance most_instances,
  padded_nil unused_vector most_vectors,
)

-- ---- one verdict after the other

-- what follows a verdict that refuses does not count
unless-refused : (v : Verdict) (x y : Reading) → is_refused v ≡ true → unless v x ≡ unless v y
unfolding is_refused unless
unless-refused passes x y e = cc
unless-refused (refused_at n p) x y e = refl

-- of two refusals the first counts
unless-or : (r s : Option Refusal) (x : Reading) → unless (verdict_of r) (unless (verdict_of s) x) ≡ unless (verdict_of (option_or r s)) x
unfolding unless
unless-or None s x = refl
unless-or (Some r) s x = refl

-- a reading that has come to a stage goes on behind it, with the first refusal so far
behind : {A : Type 0} {reading : Reading} {stage : Stage A} (next : A → Cut → Reading) (r s : Option Refusal) (a : A) (cut : Cut)
    → reading ≡ unless (verdict_of r) (after_stage stage next) → stage ≡ stage_of (verdict_of s) a cut
    → reading ≡ unless (verdict_of (option_or r s)) (next a cut)
unfolding after_stage
behind {A} next r s a cut come is =
    come ∙ ap (λ (st : Stage A). unless (verdict_of r) (after_stage st next)) is ∙ unless-or r s (next a cut)

-- an answer with this refusal or none, beside the circuit that counts where it has none
told : (c : Circuit) (why : Option Refusal) (r : CircuitRecord) → r ≡ circuit_record c
    → Tells (unless (verdict_of why) (accepted c)) (record { refusal = why; circuit = r })
unfolding unless Tells
told c None r is = (refl, is)
told c (Some why) r is = refl

-- ---- the stages one after the other, with P inputs in a file of this size

abbrev then_ending : Bool → ℕ → ℕ → List ModuleType → List Listed → List Instance → List (List Value) → Cut → Reading
then_ending wanted size P types bridges instances vectors cut =
    unless (ending_verdict wanted size (length instances) (length vectors) cut)
    (accepted (record { inputs = P; types = types; bridges = bridges; instances = instances; vectors = vectors }))

abbrev then_vectors : Bool → ℕ → ℕ → List ModuleType → List Listed → List Instance → Cut → Reading
then_vectors wanted size P types bridges instances cut =
    after_stage (vector_stage P [] cut) (then_ending wanted size P types bridges instances)

abbrev then_instances : Bool → ℕ → ℕ → List ModuleType → List Listed → Cut → Reading
then_instances wanted size P types bridges cut =
    after_stage (instance_stage P types bridges [] cut) (then_vectors wanted size P types bridges)

abbrev then_bridges : Bool → ℕ → ℕ → List ModuleType → Cut → Reading
then_bridges wanted size P types cut = after_stage (bridge_stage [] cut) (then_instances wanted size P types)

-- the types and bridges that were read, as records
pub types_read : {file : List ℕ} {from : ℕ} {t : Types} (types : TypesRead file from t) → take t.count t.all ≡ map type_record types.types
types_read types =
    let are = map type_record types.types in
    let long = length-map types.types type_record in
    rw (types.all, types.count, ← long) (take_padded unused_type most_types are (omega (arith, types.within)))

pub bridges_read : {file : List ℕ} {from : ℕ} {b : Bridges} (bridges : BridgesRead file from b)
    → take b.count b.all ≡ map bridge_record bridges.bridges
bridges_read bridges =
    let are = map bridge_record bridges.bridges in
    let long = length-map bridges.bridges bridge_record in
    rw (bridges.all, bridges.count, ← long) (take_padded unused_bridge most_bridges are (omega (arith, bridges.within)))

-- what the instances are held to
pub held_to : {file : List ℕ} {from : ℕ} {t : Types} {b : Bridges} (types : TypesRead file from t) (bridges : BridgesRead file t.at b)
    (held : Held) → held.types.now ≡ take t.count t.all → SummedTo (take b.count b.all) held.lists.now
    → TypesAndLists types.types bridges.bridges held
held_to {t = t} {b} types bridges held are summed =
    let all = are ∙ types_read types in
    let tells = named held.types.now types.types all in
    record {
      counted = ap length all ∙ length-map types.types type_record;
      nodes_of = λ n. (tells n).highest;
      labels_by_number = λ n. (tells n).labels;
      good = (stage-types _ _ types.types _ types.stage).each;
      few = bridges.within;
      summed = summed bridges.bridges bridges.within bridges.ranges (bridges_read bridges);
    }

module _ (wanted : Bool) {file : List ℕ} {s : Start} (start : StartRead wanted file s)
    {t : Types} (types : TypesRead file s.at t)
    {b : Bridges} (bridges : BridgesRead file t.at b)
    {i : Instances} (instances : InstancesRead file b.at s.inputs types.types bridges.bridges i)
    {v : Vectors} (vectors : VectorsRead file i.at s.inputs v)
    (last : Option Refusal) (end : verdict_of last ≡ ending_verdict wanted (length file) i.count v.count (cut_from file v.at)) where
  -- the circuit that was read
  abbrev circuit : Circuit
  circuit = record {
    inputs = s.inputs;
    types = types.types;
    bridges = bridges.bridges;
    instances = instances.instances;
    vectors = vectors.vectors;
  }

  -- as the code's record, whatever stands beside it
  record_is : (whole_of last s.inputs t b i v).circuit ≡ circuit_record circuit
  unfolding circuit_record
  record_is = cc (
    types.count,
    types.all,
    bridges.count,
    bridges.all,
    instances.count,
    instances.all,
    instances.faults,
    vectors.count,
    vectors.all,
  )

  -- what was read of the file
  gathers : (whole_of last s.inputs t b i v).circuit ≡ circuit_record (read_before file)
  unfolding gathered_from
  gathers = rw (← gathered_is_before file, start.gathered, types.stage, bridges.stage, instances.stage, vectors.stage) record_is

  -- the refusal of the stages, and of the ending behind them
  abbrev in_stages : Option Refusal
  in_stages = option_or (option_or (option_or (option_or s.refusal t.refusal) b.refusal) i.refusal) v.refusal

  tells : Tells (reading_with wanted file) (whole_of (option_or in_stages last) s.inputs t b i v)
  unfolding after_inputs
  tells =
      let size = length file in
      let P = s.inputs in
      let at-bridges = behind (then_bridges wanted size P) _ _ _ _ start.reads types.stage in
      let at-instances = behind (then_instances wanted size P types.types) _ _ _ _ at-bridges bridges.stage in
      let at-vectors = behind (then_vectors wanted size P types.types bridges.bridges) _ _ _ _ at-instances instances.stage in
      let at_end = behind (then_ending wanted size P types.types bridges.bridges instances.instances) _ _ _ _ at-vectors vectors.stage in
      let ended = rw (instances.count, vectors.count) at end in
      rw (at_end, ← ended, unless-or in_stages last (accepted circuit)) (told circuit _ _ record_is)

  pub stages_read : ReadByStages wanted file (whole_of (option_or in_stages last) s.inputs t b i v)
  stages_read = record { tells = tells; circuit = gathers }

-- ---- from what is told to the whole answer

pub told_refused : (reading : Reading) (r : ReadingRecord) (why : Refusal) → Tells reading r → r.refusal ≡ Some why
    → Answers reading (record { refusal = Some why; circuit = circuit_record empty_circuit })
unfolding Tells Answers
told_refused (accepted c) r why tells e = cc (e, tells.0)
told_refused (refusal n p) r why tells e = (rw e at tells, refl)

pub told_accepted : (reading : Reading) (r : ReadingRecord) → Tells reading r → r.refusal ≡ None → Answers reading r
unfolding Tells Answers
told_accepted (accepted c) r tells e = tells
told_accepted (refusal n p) r tells e = cc (e, tells)

-- ---- how a file begins

-- with no instance and no vector there is always a refusal
ending-refused : (wanted : Bool) (size : ℕ) (cut : Cut) → is_refused (ending_verdict wanted size 0 0 cut) ≡ true
unfolding ending_verdict ended_verdict past_verdict is_refused
ending-refused wanted size clean = refl
ending-refused wanted size (broken place) = refl
ending-refused wanted size (field f rest) = go (is_unknown (tag_of f.tag))
  where
    go : (b : Bool) → is_refused (cond b (refused_at 3 f.at) (refused_at 4 f.at)) ≡ true
    go true = refl
    go false = refl

-- at the end of a file the stages gather nothing
gathered-at-end : (file : List ℕ) → gathered_from 0 (cut_from file (length file)) ≡ empty_circuit
unfolding gathered_from type_stage judged is_empty if_passes section
gathered-at-end file = rw (cut_clean file (length file) (omega arith))

-- a field of inputs that passed says at most 64
inputs-within : (at : ℕ) (body : List ℕ) → first_of (inputs_tests at body) ≡ passes → two_bytes body 0 ≤ 64
unfolding inputs_tests between
inputs-within at body e =
    let n = two_bytes body 0 in
    let first = first_passes (test 5 (not (eqb (length body) 2)) at) (test 7 (not (between 1 64 n)) at ∷ []) e in
    let second = first_passes (test 7 (not (between 1 64 n)) at) [] first.1 in
    go n (not-false (between 1 64 n) second.0)
  where
    second : (a b : Bool) → (a && b) ≡ true → b ≡ true
    second true b h = h
    second false b h = cc

    go : (n : ℕ) → between 1 64 n ≡ true → n ≤ 64
    go n h = leb-true n 64 (second (leb 1 n) (leb n 64) h)

module _ (wanted : Bool) (file : List ℕ) where
  -- how a file starts that is refused there
  abbrev pub stopped_by : Option Refusal → Start
  stopped_by r = record { refusal = r; at = length file; inputs = 0 }

  refused-start : (x : Reading) (r : Option Refusal) → reading_with wanted file ≡ unless (verdict_of r) x → gathered_of file ≡ empty_circuit
      → is_refused (verdict_of r) ≡ true → StartRead wanted file (stopped_by r)
  refused-start x r is none e = record {
    reads = is ∙ unless-refused (verdict_of r) x _ e;
    gathered = none ∙ sym (gathered-at-end file);
    place = omega arith;
    few = omega arith;
  }

  pub start_long : most_bytes < length file → StartRead wanted file (stopped_by (Some TooLong))
  unfolding staged gathered_of unless is_refused
  start_long h =
      refused-start (accepted empty_circuit) (Some TooLong) (sym (staged_is_reading wanted file) ∙ rw (lt-ltb most_bytes (length file) h))
      (rw (lt-ltb most_bytes (length file) h)) refl

  module _ (short : length file ≤ most_bytes) where
    begins : reading_with wanted file ≡ from_start wanted (length file) (cut_from file 0)
    unfolding staged
    begins = sym (staged_is_reading wanted file) ∙ rw (le-ltb most_bytes (length file) short)

    begins_gathered : gathered_of file ≡ gathered_at_start (cut_from file 0)
    unfolding gathered_of
    begins_gathered = rw (le-ltb most_bytes (length file) short)

    -- it does not begin with its inputs
    module _ (other : NextIs file 0 (is_kind inputs_tag) None) where
      reads_other : (cut : Cut) → cut_from file 0 ≡ cut
          → from_start wanted (length file) cut ≡ unless (ending_verdict wanted (length file) 0 0 cut) (accepted empty_circuit)
      unfolding NextIs from_start ending_verdict
      reads_other clean e = refl
      reads_other (broken place) e = refl
      reads_other (field f rest) e = rw (other f rest e)

      gathers_none : (cut : Cut) → cut_from file 0 ≡ cut → gathered_at_start cut ≡ empty_circuit
      unfolding NextIs gathered_at_start
      gathers_none clean e = refl
      gathers_none (broken place) e = refl
      gathers_none (field f rest) e = rw (other f rest e)

      pub start_other : (r : Option Refusal) → verdict_of r ≡ ending_verdict wanted (length file) 0 0 (cut_from file 0)
          → StartRead wanted file (stopped_by r)
      start_other r is =
          refused-start (accepted empty_circuit) r (begins ∙ reads_other (cut_from file 0) refl ∙ rw is)
          (begins_gathered ∙ gathers_none (cut_from file 0) refl) (rw is (ending-refused wanted (length file) (cut_from file 0)))

    -- it begins with a field of inputs
    module _ (f : FieldRecord) (here : FieldAt file 0 f) (own : is_kind inputs_tag (tag_of f.tag) ≡ true) where
      reads_field : reading_with wanted file ≡ unless (first_of (inputs_tests f.at f.body.now))
          (after_inputs wanted (length file) (two_bytes f.body.now 0) (cut_from file (end_of f)))
      unfolding from_start field_in
      reads_field = begins ∙ rw (here.cut, own)

      gathers_field : gathered_of file ≡ cond (is_refused (first_of (inputs_tests f.at f.body.now))) empty_circuit
          (gathered_from (two_bytes f.body.now 0) (cut_from file (end_of f)))
      unfolding gathered_at_start field_in
      gathers_field = begins_gathered ∙ rw (here.cut, own)

      pub start_refused : (why : Refusal) → first_of (inputs_tests f.at f.body.now) ≡ verdict_of (Some why)
          → StartRead wanted file (stopped_by (Some why))
      unfolding is_refused
      start_refused why is =
          let after = after_inputs wanted (length file) (two_bytes f.body.now 0) (cut_from file (end_of f)) in
          refused-start after (Some why) (reads_field ∙ rw is) (gathers_field ∙ rw is) refl

      pub start_passes : first_of (inputs_tests f.at f.body.now) ≡ passes
          → StartRead wanted file (record { refusal = None; at = end_of f; inputs = two_bytes f.body.now 0 })
      unfolding is_refused
      start_passes passed = record {
        reads = reads_field ∙ rw passed;
        gathered = gathers_field ∙ rw passed;
        place = here.inside;
        few = inputs-within f.at f.body.now passed;
      }
