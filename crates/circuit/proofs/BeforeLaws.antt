-- What was read before a refusal keeps the rules of its fields: a stage adds a field only where the field's tests pass, and leaves a type that is not finished out.
use Prim.Native.Nat.{ℕ, suc, ◌-◌, ◌<◌, ◌≤◌}
use mathlib.Core.Path.{◌≡◌, refl, ap, subst}
use mathlib.Core.Bool.{Bool, true, false, cond, not, ◌&&◌}
use mathlib.Core.List.{List, [], ◌∷◌, ◌++◌}
use native.Mathlib.Nat.{not-suc-le-zero}
use native.Mathlib.Decide.{dec_lt, ℕ_discrete}
use native.Mathlib.Omega.{arith}
use lib.Dec.{T, ltb}
use lib.ListN.{length, get_or, set, length-set, length-take, get_or-append}
use lib.Seq.{get_or-take, get_or-set_same, get_or-set_other}
use Rattle.switch.specs.Conduction.{Value}
use Rattle.switch.specs.Modules.{ModuleType}
use Rattle.switch.specs.Deciding.{is_complementary}
use Rattle.circuit.specs.Limits.{most_bytes, most_types, most_bridges, most_instances, most_vectors, most_faults}
use Rattle.circuit.specs.Fields.{Cut, clean, broken, field, cut_from, two_bytes}
use Rattle.circuit.specs.Circuit.{Instance, Listed, no_type, fault_count}
use Rattle.circuit.specs.Order.{Tag, inputs_tag, type_tag, bridge_tag, instance_tag, vector_tag, tag_of, is_kind, is_edge}
use Rattle.circuit.specs.Known.{type_in, edges_in, listed_in, instance_in, vector_in, latest, with_edges, edges_added}
use Rattle.circuit.specs.Table.{Test, Verdict, passes, refused_at, first_of, not_complementary, listed_good, is_empty, inputs_tests, type_tests, edge_tests, bridge_tests, instance_tests, vector_tests}
use Rattle.circuit.specs.Records.{empty_circuit}
use Rattle.circuit.specs.Verdicts.{is_refused}
use Rattle.circuit.specs.Before.{types_before}
use Rattle.circuit.specs.Stages.{Stage, stage_of, stopped, if_passes, section, section_of, bridge_stage, instance_stage, failing_verdict, judged, field_place, type_stage, read_to, gathered_from, gathered_at_start, gathered_of}
use Rattle.circuit.specs.Laws.{Each, TypeSound, TypeGood, InstanceGood, CircuitGood, BeforeIsGood}
use Rattle.circuit.proofs.StageLaws.{edge_as, with_edge, with_type, more_edges, more_types, by_edge, by_type, by_other}
use Rattle.circuit.proofs.GatheredLaws.{failing-refuses, gathered_is_before}
use Rattle.circuit.proofs.Tested.{inputs-pass, type-pass, edges-sound, bridge-pass, faults_snoc, instance_pass, vector-pass, holds, length_snoc, get_or-any, some-length, no_length, each_none, each_snoc}
use Rattle.circuit.proofs.Verdicts.{refused-passes}

-- ---- a stage of one kind

verdict-keeps : {A : Type 0} (Holds : A → Type 0) (v : Verdict) (a : A) (cut : Cut) (s : Stage A) → Holds a → (v ≡ passes → Holds s.gathered)
    → Holds (if_passes v a cut s).gathered
unfolding if_passes
verdict-keeps Holds passes a cut s h later = later refl
verdict-keeps Holds (refused_at number place) a cut s h later = h

module _ (kind : Tag) {A : Type 0} (tests : A → ℕ → List ℕ → List Test) (add : A → List ℕ → A) (Holds : A → Type 0)
    (keeps : (a : A) (at : ℕ) (body : List ℕ) → Holds a → first_of (tests a at body) ≡ passes → Holds (add a body)) where
  section_keeps : (a : A) (cut : Cut) → Holds a → Holds (section_of kind tests add a cut).gathered
  unfolding section
  section_keeps a clean h = h
  section_keeps a (broken at) h = h
  section_keeps a (field f rest) h = go (is_kind kind (tag_of f.tag)) (λ k. section_keeps (add a f.body) rest k)
    where
      more : Stage A
      more = section_of kind tests add (add a f.body) rest

      go : (own : Bool) → (Holds (add a f.body) → Holds more.gathered)
          → Holds (cond own (if_passes (first_of (tests a f.at f.body)) a (field f rest) more) (stopped a (field f rest))).gathered
      go true later = verdict-keeps Holds (first_of (tests a f.at f.body)) a (field f rest) more h (λ e. later (keeps a f.at f.body h e))
      go false later = h

-- ---- types

pub record TypesGood (types : List ModuleType) : Type 0 where
  pub few : length types ≤ most_types
  pub each : Each (λ (i : ℕ) (t : ModuleType). TypeGood t) types

-- types whose latest is not judged yet
record TypesSound (types : List ModuleType) : Type 0 where
  pub few : length types ≤ most_types
  pub each : Each (λ (i : ℕ) (t : ModuleType). TypeSound t) types
  pub judged : (i : ℕ) (none : ModuleType) → suc i < length types → T (is_complementary (get_or types i none))

no_types_lem : TypesSound []
no_types_lem = record { few = omega arith; each = each_none _; judged = λ i none h. absurd (not-suc-le-zero h) }

latest-sound : (types : List ModuleType) → is_empty types ≡ false → TypesSound types → TypeSound (latest types)
unfolding latest
latest-sound types some s = let h = some-length types some in s.each (length types - 1) no_type (omega arith)

edge-keeps : (types : List ModuleType) (t : ModuleType) → is_empty types ≡ false → TypesSound types → TypeSound t → TypesSound (set types (length types - 1) t)
edge-keeps types t some s new =
    record {
      few = rw (length-set types (length types - 1) t) s.few;
      each = λ i none h. at i none (rw (length-set types (length types - 1) t) at h) (ℕ_discrete i (length types - 1));
      judged = λ i none h.
          let q : suc i < length types = (rw (length-set types (length types - 1) t) at h) in
          rw (get_or-set_other types (length types - 1) i t none (omega arith)) (s.judged i none q);
    }
  where
    at : (i : ℕ) (none : ModuleType) → i < length types → Dec (i ≡ length types - 1) → TypeSound (get_or (set types (length types - 1) t) i none)
    at i none h (yes e) = let l = some-length types some in rw (e, get_or-set_same types (length types - 1) t none (omega arith)) new
    at i none h (no e) = rw (get_or-set_other types (length types - 1) i t none e) (s.each i none h)

type-keeps : (types : List ModuleType) (t : ModuleType) → TypesGood types → length types < most_types → TypeSound t → TypesSound (types ++ (t ∷ []))
type-keeps types t g room new =
    record {
      few = omega (arith, length_snoc types t);
      each = each_snoc (λ (i : ℕ) (u : ModuleType). TypeSound u) types t (λ i none h. (g.each i none h).sound) new;
      judged = λ i none h.
          let q : i < length types = omega (arith, length_snoc types t) in
          rw (get_or-append types (t ∷ []) none i q) (g.each i none q).complementary;
    }

-- types that were judged are complementary, the latest too
judged-types : (types : List ModuleType) (type_at : ℕ) (cut : Cut) → TypesSound types → judged types type_at cut ≡ passes → TypesGood types
unfolding judged not_complementary latest
judged-types types type_at cut s e =
    record {
      few = s.few;
      each = λ i none h.
          record { sound = s.each i none h; complementary = go (is_empty types) (is_complementary (latest types)) refl refl e i none h };
    }
  where
    go : (em co : Bool) → is_empty types ≡ em → is_complementary (latest types) ≡ co
        → cond em passes (cond (not co) (failing_verdict type_at cut) passes) ≡ passes
        → (i : ℕ) (none : ModuleType) → i < length types → T (is_complementary (get_or types i none))
    go true co em co' q i none h = absurd (omega (arith, no_length types em))
    go false false em co q i none h = absurd (refused-passes (failing_verdict type_at cut) (failing-refuses type_at cut) q)
    go false true em co q i none h = at (dec_lt (suc i) (length types))
      where
        at : Dec (suc i < length types) → T (is_complementary (get_or types i none))
        at (yes k) = s.judged i none k
        at (no k) =
            let last : i ≡ length types - 1 = omega arith in
            rw (get_or-any types i none no_type h, last) (holds (is_complementary (latest types)) co)

-- the types before the latest were judged
before-good : (types : List ModuleType) → TypesSound types → TypesGood (types_before types)
unfolding types_before
before-good types s =
    let size = length-take (length types - 1) types in
    record {
      few = omega (arith, size, s.few);
      each = λ i none h.
          let q : i < length types - 1 = omega (arith, size) in
          rw (get_or-take (length types - 1) types i none q)
          (record { sound = s.each i none (omega arith); complementary = s.judged i none (omega arith) });
    }

types_keep : (types : List ModuleType) (from cut : Cut) → TypesSound types → TypesGood (type_stage types from cut).gathered
unfolding type_stage edges_added
types_keep types from clean s =
    verdict-keeps TypesGood (judged types (field_place from) clean) (types_before types) from (stopped types clean) (before-good types s)
    (λ e. judged-types types (field_place from) clean s e)
types_keep types from (broken at) s =
    verdict-keeps TypesGood (judged types (field_place from) (broken at)) (types_before types) from (stopped types (broken at)) (before-good types s)
    (λ e. judged-types types (field_place from) (broken at) s e)
types_keep types from (field f rest) s =
    go (is_edge (tag_of f.tag)) (is_empty types) refl
    (λ k. types_keep (with_edge types f) from rest k)
    (λ k. types_keep (with_type types f) (field f rest) rest k)
  where
    as_type : (two : Bool) → TypesGood types → (TypesSound (with_type types f) → TypesGood (more_types types f from rest).gathered)
        → TypesGood (cond two (by_type types f from rest) (stopped types (field f rest))).gathered
    as_type true g more =
        verdict-keeps TypesGood (first_of (type_tests (length types) f.at f.body)) types (field f rest) (more_types types f from rest) g
        (λ e. let new = type-pass (length types) f.at f.body e in more (type-keeps types (type_in f.body) g new.0 new.1))
    as_type false g more = g

    other : (TypesSound (with_type types f) → TypesGood (more_types types f from rest).gathered)
        → TypesGood (if_passes (judged types (field_place from) (field f rest)) (types_before types) from (by_other types f from rest)).gathered
    other more =
        verdict-keeps TypesGood (judged types (field_place from) (field f rest)) (types_before types) from (by_other types f from rest)
        (before-good types s)
        (λ e. as_type (is_kind type_tag (tag_of f.tag)) (judged-types types (field_place from) (field f rest) s e) more)

    go : (three em : Bool) → is_empty types ≡ em
        → (TypesSound (with_edge types f) → TypesGood (more_edges types f from rest).gathered)
        → (TypesSound (with_type types f) → TypesGood (more_types types f from rest).gathered)
        → TypesGood (cond (three && not em) (by_edge types f from rest)
        (if_passes (judged types (field_place from) (field f rest)) (types_before types) from (by_other types f from rest))).gathered
    go true true em edges types' = other types'
    go true false em edges types' =
        verdict-keeps TypesGood (first_of (edge_tests (edge_as f) (latest types) f.at f.body)) (types_before types) from (more_edges types f from rest) (before-good types s)
        (λ e. edges (edge-keeps types (with_edges (latest types) (edges_in (edge_as f) (latest types).output f.body)) em s
        (edges-sound (edge_as f) (latest types) f.at f.body e (latest-sound types em s))))
    go false em em' edges types' = other types'

-- the types that the code's stage has read
pub stage-types : (cut : Cut) (v : Verdict) (types : List ModuleType) (rest : Cut) → type_stage [] clean cut ≡ stage_of v types rest → TypesGood types
stage-types cut v types rest e = subst TypesGood (ap (λ (s : Stage (List ModuleType)). s.gathered) e) (types_keep [] clean cut no_types_lem)

-- ---- bridges, instances, vectors

record BridgesGood (bridges : List Listed) : Type 0 where
  pub few : length bridges ≤ most_bridges
  pub each : Each (λ (i : ℕ) (b : Listed). T (listed_good b)) bridges

record InstancesGood (P : ℕ) (types : List ModuleType) (bridges : List Listed) (instances : List Instance) : Type 0 where
  pub few : length instances ≤ most_instances
  pub each : Each (InstanceGood P types bridges) instances
  pub faults : fault_count types bridges instances ≤ most_faults

record VectorsGood (P : ℕ) (vectors : List (List Value)) : Type 0 where
  pub few : length vectors ≤ most_vectors
  pub each : Each (λ (i : ℕ) (v : List Value). length v ≡ P) vectors

bridge-keeps : (bs : List Listed) (at : ℕ) (body : List ℕ) → BridgesGood bs → first_of (bridge_tests (length bs) at body) ≡ passes
    → BridgesGood (bs ++ (listed_in body ∷ []))
bridge-keeps bs at body g e =
    let new = bridge-pass (length bs) at body e in
    let room = new.0 in
    record {
      few = omega (arith, length_snoc bs (listed_in body));
      each = each_snoc (λ (i : ℕ) (b : Listed). T (listed_good b)) bs (listed_in body) g.each new.1.1;
    }

instance-keeps : (P : ℕ) (types : List ModuleType) (bridges : List Listed) (is : List Instance) (at : ℕ) (body : List ℕ)
    → InstancesGood P types bridges is → first_of (instance_tests (read_to P types bridges is) at body) ≡ passes
    → InstancesGood P types bridges (is ++ (instance_in body ∷ []))
instance-keeps P types bridges is at body g e =
    let new = instance_pass (read_to P types bridges is) at body e in
    let room = new.0 in
    let fits = new.2 in
    record {
      few = omega (arith, length_snoc is (instance_in body));
      each = each_snoc (InstanceGood P types bridges) is (instance_in body) g.each new.1;
      faults = omega (arith, faults_snoc types bridges is (instance_in body));
    }

vector-keeps : (P : ℕ) (vs : List (List Value)) (at : ℕ) (body : List ℕ) → VectorsGood P vs → first_of (vector_tests P (length vs) at body) ≡ passes
    → VectorsGood P (vs ++ (vector_in body ∷ []))
vector-keeps P vs at body g e =
    let new = vector-pass P (length vs) at body e in
    let room = new.0 in
    record {
      few = omega (arith, length_snoc vs (vector_in body));
      each = each_snoc (λ (i : ℕ) (v : List Value). length v ≡ P) vs (vector_in body) g.each new.1;
    }

-- ---- the whole

nothing-good : CircuitGood empty_circuit
unfolding fault_count
nothing-good = record {
  few_inputs = omega arith;
  few_types = omega arith;
  types = each_none _;
  few_bridges = omega arith;
  bridges = each_none _;
  few_instances = omega arith;
  instances = each_none _;
  few_faults = omega arith;
  few_vectors = omega arith;
  vectors = each_none _;
}

gathered-good : (P : ℕ) (cut : Cut) → P ≤ 64 → CircuitGood (gathered_from P cut)
unfolding gathered_from fault_count
gathered-good P cut few =
    let types = type_stage [] clean cut in
    let t = types_keep [] clean cut no_types_lem in
    let bridges = bridge_stage [] types.rest in
    let b = section_keeps bridge_tag _ _ BridgesGood bridge-keeps [] types.rest (record { few = omega arith; each = each_none _ }) in
    let instances = instance_stage P types.gathered bridges.gathered [] bridges.rest in
    let i = section_keeps instance_tag _ _ (InstancesGood P types.gathered bridges.gathered) (instance-keeps P types.gathered bridges.gathered) [] bridges.rest
    (record { few = omega arith; each = each_none _; faults = omega arith }) in
    let v = section_keeps vector_tag _ _ (VectorsGood P) (vector-keeps P) [] instances.rest (record { few = omega arith; each = each_none _ }) in
    record {
      few_inputs = few;
      few_types = t.few;
      types = t.each;
      few_bridges = b.few;
      bridges = b.each;
      few_instances = i.few;
      instances = i.each;
      few_faults = i.faults;
      few_vectors = v.few;
      vectors = v.each;
    }

inputs_keep : (one : Bool) (v : Verdict) (P : ℕ) (rest : Cut) → (v ≡ passes → (1 ≤ P) × (P ≤ 64))
    → CircuitGood (cond one (cond (is_refused v) empty_circuit (gathered_from P rest)) empty_circuit)
unfolding is_refused
inputs_keep true passes P rest range = gathered-good P rest (range refl).1
inputs_keep true (refused_at number place) P rest range = nothing-good
inputs_keep false v P rest range = nothing-good

start-keeps : (cut : Cut) → CircuitGood (gathered_at_start cut)
unfolding gathered_at_start
start-keeps clean = nothing-good
start-keeps (broken at) = nothing-good
start-keeps (field f rest) =
    inputs_keep (is_kind inputs_tag (tag_of f.tag)) (first_of (inputs_tests f.at f.body)) (two_bytes f.body 0) rest (inputs-pass f.at f.body)

pub before-is-good : BeforeIsGood
unfolding gathered_of
before-is-good file = subst (CircuitGood) (gathered_is_before file) (go (ltb most_bytes (length file)))
  where
    go : (long : Bool) → CircuitGood (cond long empty_circuit (gathered_at_start (cut_from file 0)))
    go true = nothing-good
    go false = start-keeps (cut_from file 0)
