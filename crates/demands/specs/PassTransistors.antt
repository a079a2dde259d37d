-- 02, "Pass transistors", on files. Each edge of an accepted file has its own channel: that of its node numbers where it came with tag 3,
-- the one that its field states where it came with tag 7. Supply and ground are apart in every accepted type, whatever its channels are.
-- Demands 2 and 3 read the recorded channel; which tag told it changes no answer. Files without tag 7 are answered as they were. The proofs
-- are in proofs/PassTransistorsProof, TagsGraded, PassesBefore and WrongPasses; computed results are `PassesKnown` (PassResults).
use Rattle.std.specs.Prelude.{ℕ, ◌+◌, ◌-◌, ◌≤◌, ◌≡◌, Bool, true, false, cond, not, ◌&&◌, ◌||◌, ◌⊎◌, eqb, leb, ltb, length, get_or}
use mathlib.Core.List.{List, [], ◌∷◌, ◌++◌, map, Memᴰ}
use Rattle.switch.specs.Conduction.{Value, at0, Channel, channel_p, channel_n, EdgeTag, by_position, stated, Edge, Joined, ground, supply}
use Rattle.switch.specs.Conduction.{bad_ends, channel_bit, channel_by, channel_of}
use Rattle.switch.specs.Modules.{ModuleType, Complementary, links_of}
use Rattle.switch.specs.Records.{tag_bit}
use Rattle.switch.specs.Tags.{untagged_type}
use Rattle.switch.specs.Examples.{edge}
use Rattle.circuit.specs.Fields.{Field, Cut, clean, broken, field, cut_from}
use Rattle.circuit.specs.Circuit.{Circuit, primary, exhaustive}
use Rattle.circuit.specs.Order.{type_tag, edge_tag, tag_of, is_kind, is_edge, edge_tag_of, is_unknown}
use Rattle.circuit.specs.Known.{Known, start, type_in, edges_in, latest, with_edges, edges_added, known_after}
use Rattle.circuit.specs.Table.{Test, test, unjudged, not_complementary, field_tests, end_tests}
use Rattle.circuit.specs.Reading.{Reading, accepted, refusal, reading_of}
use Rattle.grading.specs.Buffers.{Buffers}
use Rattle.demands.specs.Calls.{Call, Kept, Accepts}
use Rattle.demands.specs.One.{SameOutcome}
use Rattle.demands.specs.Graders.{Grader, called, MeetsPromise, read_taking, testing, taking}
use Rattle.demands.specs.SingleTransistors.{EdgeFieldOf}
use Rattle.demands.specs.Files.{one_under, type_field, edge_field, pass_field, pass_inverter_fields, inverter}

-- ---- channels

-- the edges that the fields of a cut tell, up to the first that is no edge's, in a type with the output node o
unfoldable pub edges_behind : ℕ → Cut → List Edge
edges_behind o clean = []
edges_behind o (broken at) = []
edges_behind o (field f rest) =
    let more = edges_behind o rest in
    let tag = tag_of f.tag in
    cond (is_edge tag) (edges_in (edge_tag_of tag) o f.body ++ more) []

-- the types that they tell: of each its tag 2 field, and the edges behind it
unfoldable pub types_in : Cut → List ModuleType
types_in clean = []
types_in (broken at) = []
types_in (field f rest) =
    let more = types_in rest in
    let t = type_in f.body in
    cond (is_kind type_tag (tag_of f.tag)) (with_edges t (edges_behind t.output rest) ∷ more) more

-- the types of an accepted file are these, with all their edges, in order: `edges_in` says which channel and which tag each has
abbrev pub TypesAreFields : Type 0
TypesAreFields = (file : List ℕ) (c : Circuit) → Accepts file c → c.types ≡ types_in (cut_from file 0)

-- tag 3 keeps its rule and takes its channel from the node numbers; tag 7 has two different nodes, wherever they are
unfoldable pub EndsAsTagged : EdgeTag → ModuleType → Edge → Type 0
EndsAsTagged by_position t e =
    (bad_ends t.highest t.output e.first e.second ≡ false) × (e.channel ≡ channel_of t.output e.first e.second)
EndsAsTagged stated t e = e.first ≡ e.second → ⊥

abbrev pub EndsKeepTheRules : Type 0
EndsKeepTheRules =
    (file : List ℕ) (c : Circuit) → Accepts file c → (t : ModuleType) → Memᴰ t c.types → (e : Edge) → Memᴰ e t.edges
    → EndsAsTagged e.tag t e

-- the complementary rule still keeps supply and ground apart: under every setting, and so under any values of its labels, X among them
pub record RailsKeptApart (t : ModuleType) : Type 0 where
  pub one_rail_lem : Complementary t
  pub apart : (values : ℕ → Value) → Joined (links_of t values) supply ground → ⊥

abbrev pub RailsApartInFiles : Type 0
RailsApartInFiles = (file : List ℕ) (c : Circuit) → Accepts file c → (t : ModuleType) → Memᴰ t c.types → RailsKeptApart t

-- ---- tags

-- a circuit as if all its edges had come with tag 3, their channels as recorded
unfoldable pub untagged_circuit : Circuit → Circuit
untagged_circuit c =
    record {
      inputs = c.inputs;
      types = map untagged_type c.types;
      bridges = c.bridges;
      instances = c.instances;
      vectors = c.vectors;
    }

-- two files that are read as circuits which differ at most in tags have one outcome, with equal buffers lent
abbrev pub TagsChangeNoAnswer : Type 0
TagsChangeNoAnswer =
    (one other : Call) (c d : Circuit) → Kept one → Kept other → Accepts one.file c → Accepts other.file d
    → untagged_circuit c ≡ untagged_circuit d → one.before ≡ other.before → SameOutcome one other

-- ---- files of before

-- before, tag 7 was none of the tags. All else is today's: of files with tag 3 alone, by tests and limits of their own, SingleTransistors
-- speaks
unfoldable pub seven_unknown : Field → Test → Test
seven_unknown f t =
    let tag = tag_of f.tag in
    cond (eqb t.number 3) (test 3 (is_unknown tag || is_kind (edge_tag stated) tag) t.place) t

abbrev pub tests_without_passes : Known → Field → List Test
tests_without_passes known f = map (seven_unknown f) (field_tests known f)

-- the grader of then
abbrev pub without_passes : Grader
without_passes = testing tests_without_passes (end_tests true)

-- what it read, of a file that is not too long
abbrev pub reading_without_passes : List ℕ → Reading
reading_without_passes file = read_taking known_after tests_without_passes (end_tests true) (length file) start (cut_from file 0)

-- it met a field with tag 7, in a file of at most 57,344 bytes, and refused it by 3
pub record PassMet (file : List ℕ) : Type 0 where
  pub short : length file ≤ 57344
  pub met : Field
  pub its : EdgeFieldOf file stated met
  pub refused : reading_without_passes file ≡ refusal 3 met.at

-- its outcome keeps today's promise, or it met such a field; never both
pub record OnlyPassesChange : Type 0 where
  pub as_before : (file : List ℕ) (before : Buffers) → Kept (called without_passes file before) ⊎ PassMet file
  pub changed : (file : List ℕ) (before : Buffers) → PassMet file → Kept (called without_passes file before) → ⊥

-- 8 is given for a field with tag 3 only, and 3 for none with tag 7
pub record NumbersOfEdges : Type 0 where
  pub eight : (file : List ℕ) (place : ℕ) → reading_of file ≡ refusal 8 place
      → (f : Field) × EdgeFieldOf file by_position f × (f.at ≡ place)
  pub three : (file : List ℕ) (f : Field) → EdgeFieldOf file stated f → reading_of file ≡ refusal 3 f.at → ⊥

-- ---- what is read, computed: no answer of `grade` shows the tags

abbrev pub pass : ℕ → ℕ → Channel → ℕ → Edge
pass a b c l = record { first = a; second = b; channel = c; label = l; tag = stated }

-- an inverter at the output, its edges of one tag each, and beside it two transistors through node 3, one against its position
abbrev pub both_tags : List ℕ
both_tags =
    one_under 1 (type_field 3 2 1 ++ edge_field 1 2 (0 ∷ []) ++ pass_field 0 2 0 0 ++ pass_field 3 1 1 0 ++ pass_field 2 3 1 0) ("0" ∷ [])

-- 01's inverter by tag 7
abbrev pub passed_inverter : List ℕ
passed_inverter = one_under 1 (type_field 2 2 1 ++ pass_inverter_fields) ("0" ∷ "1" ∷ "X" ∷ [])

pub record PassFieldsRead : Type 0 where
  pub both_tags_lem : reading_of both_tags ≡ accepted (record {
    inputs = 1;
    types = record {
      highest = 3;
      output = 2;
      labels = 1;
      edges = edge 1 2 channel_p 0 ∷ pass 0 2 channel_n 0 ∷ pass 3 1 channel_p 0 ∷ pass 2 3 channel_p 0 ∷ [];
    } ∷ [];
    bridges = [];
    instances = record { type = 1; choice = exhaustive; references = primary 1 ∷ [] } ∷ [];
    vectors = (at0 ∷ []) ∷ [];
  })
  pub against_position : edges_in stated 2 (1 ∷ 2 ∷ 0 ∷ 3 ∷ []) ≡ pass 1 2 channel_n 3 ∷ []
  -- `TagsChangeNoAnswer` speaks of some files: 01's inverter, and the same by tag 7
  pub but_for_tags :
      (c : Circuit) × (d : Circuit) × Accepts inverter c × Accepts passed_inverter d × (untagged_circuit c ≡ untagged_circuit d)

-- ---- wrong ways to take tag 7

-- a grader that takes these edges from a field of tag 7, in a type with the output node o; it is right in all else
unfoldable pub passes_taken : (ℕ → List ℕ → List Edge) → Known → Field → Known
passes_taken edges known f =
    let after = known_after known f in
    let types = known.circuit.types in
    let c = after.circuit in
    let taken : Circuit =
    record {
      inputs = c.inputs;
      types = edges_added types (edges (latest types).output f.body);
      bridges = c.bridges;
      instances = c.instances;
      vectors = c.vectors;
    } in
    record {
      previous = after.previous;
      type_at = after.type_at;
      circuit = cond (is_kind (edge_tag stated) (tag_of f.tag)) taken c;
    }

abbrev pub pass_as : (ℕ → ℕ → ℕ → ℕ → Channel) → ℕ → List ℕ → List Edge
pass_as channel o body =
    let a = get_or body 0 0 in let b = get_or body 1 0 in pass a b (channel o a b (get_or body 2 0)) (get_or body 3 0) ∷ []

-- the channel of tag 7 by position too
unfoldable pub position_for_all : Grader
position_for_all = taking (passes_taken (pass_as λ o a b byte. channel_of o a b))

-- 0 for p and 1 for n
unfoldable pub channels_exchanged : Grader
channels_exchanged = taking (passes_taken (pass_as λ o a b byte. channel_by (1 - byte)))

-- graders that differ in one test of a field with tag 7
unfoldable pub retested_pass : ℕ → (Known → List ℕ → Bool) → Known → Field → Test → Test
retested_pass number refuses known f t =
    cond (is_kind (edge_tag stated) (tag_of f.tag) && eqb t.number number) (test number (refuses known f.body) t.place) t

abbrev pub passes_by : ℕ → (Known → List ℕ → Bool) → Grader
passes_by number refuses = testing (λ known f. map (retested_pass number refuses known f) (field_tests known f)) (end_tests true)

-- a type is judged when the tag is not 3
unfoldable pub judges_at_pass : Grader
judges_at_pass = passes_by 9 λ known body. unjudged known.previous && not_complementary known.circuit.types

-- tag 7 counts its own edges only
unfoldable pub stated_count : List Edge → ℕ
stated_count [] = 0
stated_count (e ∷ es) = tag_bit e.tag + stated_count es

unfoldable pub counts_its_own : Grader
counts_its_own = passes_by 6 λ known body. leb 256 (stated_count (latest known.circuit.types).edges)

-- equal ends pass
unfoldable pub takes_equal_ends : Grader
takes_equal_ends = passes_by 7 λ known body.
    let t = latest known.circuit.types in
    not (leb (get_or body 0 0) t.highest && leb (get_or body 1 0) t.highest && leb (get_or body 2 0) 1 && ltb (get_or body 3 0) t.labels)

-- a longer body, of which it takes the first label
unfoldable pub takes_more_labels : Grader
takes_more_labels = passes_by 5 λ known body. ltb (length body) 4

-- tag 7 keeps the rule of tag 3: it is refused where position does not give its channel
unfoldable pub keeps_the_rule : Grader
keeps_the_rule =
    testing
    (λ known f.
    let t = latest known.circuit.types in
    let a = get_or f.body 0 0 in
    let b = get_or f.body 1 0 in
    let breaks = bad_ends t.highest t.output a b || not (eqb (channel_bit (channel_of t.output a b)) (get_or f.body 2 0)) in
    field_tests known f ++ (test 8 (is_kind (edge_tag stated) (tag_of f.tag) && breaks) f.at ∷ []))
    (end_tests true)

pub record WrongPassesAreWrong : Type 0 where
  pub position_for_all_lem : MeetsPromise position_for_all → ⊥
  pub channels_exchanged_lem : MeetsPromise channels_exchanged → ⊥
  pub judges_at_pass_lem : MeetsPromise judges_at_pass → ⊥
  pub counts_its_own_lem : MeetsPromise counts_its_own → ⊥
  pub takes_equal_ends_lem : MeetsPromise takes_equal_ends → ⊥
  pub takes_more_labels_lem : MeetsPromise takes_more_labels → ⊥
  pub keeps_the_rule_lem : MeetsPromise keeps_the_rule → ⊥
