-- How the code reads: types with their edges, then bridges, instances and vectors, a stage each, and then the ending.
-- That this order of work gives what Reading and Before say is proved in proofs/StageLaws and proofs/GatheredLaws.
use Rattle.std.specs.Prelude.{ℕ, Bool, cond, not, ◌&&◌, List, [], ◌∷◌, ◌++◌, eqb, ltb, length}
use Rattle.switch.specs.Conduction.{Value}
use Rattle.switch.specs.Modules.{ModuleType}
use Rattle.circuit.specs.Limits.{most_bytes}
use Rattle.circuit.specs.Fields.{Cut, clean, broken, field, cut_from, two_bytes}
use Rattle.circuit.specs.Circuit.{Circuit, Instance, Listed}
use Rattle.circuit.specs.Order.{Tag, inputs_tag, type_tag, bridge_tag, instance_tag, vector_tag, tag_of, is_kind, is_edge, edge_tag_of}
use Rattle.circuit.specs.Order.{is_unknown, after_tag}
use Rattle.circuit.specs.Known.{type_in, edges_in, listed_in, instance_in, vector_in, latest, with_edges, edges_added}
use Rattle.circuit.specs.Table.{Test, Verdict, passes, refused_at, first_of, misplaced, not_complementary, is_empty, inputs_tests}
use Rattle.circuit.specs.Table.{type_tests, edge_tests, bridge_tests, instance_tests, vector_tests}
use Rattle.circuit.specs.Reading.{Reading, accepted, refusal, unless}
use Rattle.circuit.specs.Records.{empty_circuit}
use Rattle.circuit.specs.Verdicts.{is_refused}
use Rattle.circuit.specs.Before.{types_before}

-- ---- a stage

-- how a stage ends: its verdict, what it has gathered, and the rest of the file from where it stands. It stops at the first field that
-- is not its own, or is refused at a field by a test of the table; what it has gathered then is what stands before that field
pub record Stage (A : Type 0) : Type 0 where
  pub verdict : Verdict
  pub gathered : A
  pub rest : Cut

abbrev pub stage_of : {A : Type 0} → Verdict → A → Cut → Stage A
stage_of verdict a cut = record { verdict = verdict; gathered = a; rest = cut }

abbrev pub stopped : {A : Type 0} → A → Cut → Stage A
stopped a cut = stage_of passes a cut

-- a verdict that refuses ends a stage with what it has gathered and where it stands; else it goes on
unfoldable pub if_passes : {A : Type 0} → Verdict → A → Cut → Stage A → Stage A
if_passes passes a cut stage = stage
if_passes (refused_at number place) a cut stage = stage_of (refused_at number place) a cut

-- the stage's own fields, each tested by its tag against what was gathered from those before it
unfoldable pub section : {A : Type 0} → (Tag → Bool) → (Tag → A → ℕ → List ℕ → List Test) → (Tag → A → List ℕ → A) → A → Cut → Stage A
section own tests add sofar clean = stopped sofar clean
section own tests add sofar (broken at) = stopped sofar (broken at)
section own tests add sofar (field f rest) =
    let tag = tag_of f.tag in
    let more = section own tests add (add tag sofar f.body) rest in
    let tested = if_passes (first_of (tests tag sofar f.at f.body)) sofar (field f rest) more in
    cond (own tag) tested (stopped sofar (field f rest))

-- a stage of one kind
abbrev pub section_of : {A : Type 0} → Tag → (A → ℕ → List ℕ → List Test) → (A → List ℕ → A) → A → Cut → Stage A
section_of kind tests add = section (is_kind kind) (λ (tag : Tag). tests) (λ (tag : Tag). add)

abbrev pub edge_stage : ModuleType → Cut → Stage ModuleType
edge_stage =
    section is_edge (λ (tag : Tag). edge_tests (edge_tag_of tag))
    (λ (tag : Tag) (t : ModuleType) (body : List ℕ). with_edges t (edges_in (edge_tag_of tag) t.output body))

abbrev pub bridge_stage : List Listed → Cut → Stage (List Listed)
bridge_stage =
    section_of bridge_tag (λ (bs : List Listed). bridge_tests (length bs))
    (λ (bs : List Listed) (body : List ℕ). bs ++ (listed_in body ∷ []))

-- the circuit when these instances are read, before any vector
abbrev pub read_to : ℕ → List ModuleType → List Listed → List Instance → Circuit
read_to P types bridges instances = record { inputs = P; types = types; bridges = bridges; instances = instances; vectors = [] }

abbrev pub instance_stage : ℕ → List ModuleType → List Listed → List Instance → Cut → Stage (List Instance)
instance_stage P types bridges =
    section_of instance_tag (λ (is : List Instance). instance_tests (read_to P types bridges is))
    (λ (is : List Instance) (body : List ℕ). is ++ (instance_in body ∷ []))

abbrev pub vector_stage : ℕ → List (List Value) → Cut → Stage (List (List Value))
vector_stage P =
    section_of vector_tag (λ (vs : List (List Value)). vector_tests P (length vs))
    (λ (vs : List (List Value)) (body : List ℕ). vs ++ (vector_in body ∷ []))

-- ---- types, each judged when its edges are read

-- the refusal of a type that is not complementary: 9, unless what stands next is refused before 9 is looked at
unfoldable pub failing_before : Tag → ℕ → ℕ → Verdict
failing_before tag at type_at =
    cond (is_unknown tag) (refused_at 3 at) (cond (misplaced (after_tag type_tag) tag) (refused_at 4 at) (refused_at 9 type_at))

unfoldable pub failing_verdict : ℕ → Cut → Verdict
failing_verdict type_at clean = refused_at 9 type_at
failing_verdict type_at (broken at) = refused_at 2 at
failing_verdict type_at (field f rest) = failing_before (tag_of f.tag) f.at type_at

-- the latest of some types is judged
unfoldable pub judged : List ModuleType → ℕ → Cut → Verdict
judged types type_at cut = cond (is_empty types) passes (cond (not_complementary types) (failing_verdict type_at cut) passes)

-- the offset of the field that a cut begins with, 0 where it begins with none
unfoldable pub field_place : Cut → ℕ
field_place clean = 0
field_place (broken at) = 0
field_place (field f rest) = f.at

-- `from` is the file from the latest type's field on. Where an edge of that type is refused, or the type when it is judged, the stage ends
-- there, with the types before it
unfoldable pub type_stage : List ModuleType → Cut → Cut → Stage (List ModuleType)
type_stage types from clean = if_passes (judged types (field_place from) clean) (types_before types) from (stopped types clean)
type_stage types from (broken at) =
    if_passes (judged types (field_place from) (broken at)) (types_before types) from (stopped types (broken at))
type_stage types from (field f rest) =
    let e = edge_tag_of (tag_of f.tag) in
    let more_edges = type_stage (edges_added types (edges_in e (latest types).output f.body)) from rest in
    let more_types = type_stage (types ++ (type_in f.body ∷ [])) (field f rest) rest in
    let edge = if_passes (first_of (edge_tests e (latest types) f.at f.body)) (types_before types) from more_edges in
    let type = if_passes (first_of (type_tests (length types) f.at f.body)) types (field f rest) more_types in
    let next = cond (is_kind type_tag (tag_of f.tag)) type (stopped types (field f rest)) in
    let other = if_passes (judged types (field_place from) (field f rest)) (types_before types) from next in
    cond (is_edge (tag_of f.tag) && not (is_empty types)) edge other

-- ---- the ending, and the whole

-- after all stages nothing may stand but the end, and an instance and, where it is wanted, a vector must have been there
unfoldable pub ended_verdict : Bool → ℕ → ℕ → ℕ → Verdict
ended_verdict wanted size instances vectors =
    cond (eqb instances 0) (refused_at 14 size) (cond (wanted && eqb vectors 0) (refused_at 14 size) passes)

unfoldable pub past_verdict : Tag → ℕ → Verdict
past_verdict tag at = cond (is_unknown tag) (refused_at 3 at) (refused_at 4 at)

unfoldable pub ending_verdict : Bool → ℕ → ℕ → ℕ → Cut → Verdict
ending_verdict wanted size instances vectors clean = ended_verdict wanted size instances vectors
ending_verdict wanted size instances vectors (broken at) = refused_at 2 at
ending_verdict wanted size instances vectors (field f rest) = past_verdict (tag_of f.tag) f.at

unfoldable pub after_stage : {A : Type 0} → Stage A → (A → Cut → Reading) → Reading
after_stage s next = unless s.verdict (next s.gathered s.rest)

unfoldable pub after_inputs : Bool → ℕ → ℕ → Cut → Reading
after_inputs wanted size P cut =
    after_stage (type_stage [] clean cut) λ (types : List ModuleType) (cut₂ : Cut).
    after_stage (bridge_stage [] cut₂) λ (bridges : List Listed) (cut₃ : Cut).
    after_stage (instance_stage P types bridges [] cut₃) λ (instances : List Instance) (cut₄ : Cut).
    after_stage (vector_stage P [] cut₄) λ (vectors : List (List Value)) (cut₅ : Cut).
    unless (ending_verdict wanted size (length instances) (length vectors) cut₅)
    (accepted (record { inputs = P; types = types; bridges = bridges; instances = instances; vectors = vectors }))

-- the first field is tag 1, or the file ends before it begins
unfoldable pub from_start : Bool → ℕ → Cut → Reading
from_start wanted size clean = unless (ending_verdict wanted size 0 0 clean) (accepted empty_circuit)
from_start wanted size (broken at) = unless (ending_verdict wanted size 0 0 (broken at)) (accepted empty_circuit)
from_start wanted size (field f rest) =
    let first = unless (first_of (inputs_tests f.at f.body)) (after_inputs wanted size (two_bytes f.body 0) rest) in
    let other = unless (past_verdict (tag_of f.tag) f.at) (accepted empty_circuit) in
    cond (is_kind inputs_tag (tag_of f.tag)) first other

unfoldable pub staged : Bool → List ℕ → Reading
staged wanted file =
    let whole = from_start wanted (length file) (cut_from file 0) in cond (ltb most_bytes (length file)) (refusal 1 0) whole

-- ---- what was read, also where the file is refused

-- what the stages after the inputs field have gathered, each from where the one before it ended. A stage that refuses ends at a field of
-- its own tag, where the later ones find no field of theirs
unfoldable pub gathered_from : ℕ → Cut → Circuit
gathered_from P cut =
    let types = type_stage [] clean cut in
    let bridges = bridge_stage [] types.rest in
    let instances = instance_stage P types.gathered bridges.gathered [] bridges.rest in
    let vectors = vector_stage P [] instances.rest in
    record {
      inputs = P;
      types = types.gathered;
      bridges = bridges.gathered;
      instances = instances.gathered;
      vectors = vectors.gathered;
    }

-- nothing, where the first field is refused
unfoldable pub gathered_at_start : Cut → Circuit
gathered_at_start clean = empty_circuit
gathered_at_start (broken at) = empty_circuit
gathered_at_start (field f rest) =
    let after = gathered_from (two_bytes f.body 0) rest in
    let first = cond (is_refused (first_of (inputs_tests f.at f.body))) empty_circuit after in
    cond (is_kind inputs_tag (tag_of f.tag)) first empty_circuit

-- or where the file is too long
unfoldable pub gathered_of : List ℕ → Circuit
gathered_of file = let short = gathered_at_start (cut_from file 0) in cond (ltb most_bytes (length file)) empty_circuit short
