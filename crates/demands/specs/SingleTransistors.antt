-- 02, "No more grouped transistors", on files. The grader as it was before: 01's, with the classes of 02, "One wire, one short", and with
-- the rounds of "How many rounds joining takes", had they been asked for then. It took an edge field for one group of parallel
-- transistors, with 01's limits of 32,768 bytes and 64 edge fields a type. Every file is answered as it was, answer and buffers, but for
-- those that `Changed` names, and these are not. The proofs are in proofs/GroupsGrade, GroupsRead, SingleTransistorsProof and WrongEdges.
use Rattle.std.specs.Prelude.{ℕ, ◌+◌, ◌-◌, ◌^◌, ◌<◌, ◌≤◌, ◌≡◌, Bool, true, false, cond, not, ◌&&◌, ◌||◌, ◌⊎◌}
use Rattle.std.specs.Prelude.{List, [], ◌∷◌, ◌++◌, map, eqb, leb, ltb, length, get_or, drop, set}
use Rattle.std.specs.Bool.{beq}
use Rattle.words.specs.Bits.{of_bool, greatest_to}
use Rattle.words.specs.Rows.{row_of}
use Rattle.switch.specs.Conduction.{Value, at0, channel_n, EdgeTag, by_position, stated, between, bad_ends, channel_of, by_values, Link}
use Rattle.switch.specs.Conduction.{ground, supply}
use Rattle.switch.specs.Modules.{ModuleType, setting_of}
use Rattle.switch.specs.Bridges.{closing}
use Rattle.switch.specs.Deciding.{joins, all_below, level_in}
use Rattle.switch.specs.Depth.{deepest}
use Rattle.switch.specs.Grouped.{Group, group_links, of_groups}
use Rattle.switch.specs.Examples.{edge, nand}
use Rattle.circuit.specs.Fields.{Field, Cut, clean, broken, field, cut_from}
use Rattle.circuit.specs.Circuit.{Circuit, Instance, primary, exhaustive, numbered, type_of_instance}
use Rattle.circuit.specs.Order.{Tag, type_tag, edge_tag, tag_of, is_kind, is_edge, is_unknown, at_start}
use Rattle.circuit.specs.Known.{Known, start, edges_in, known_after, latest}
use Rattle.circuit.specs.Table.{Test, test, Verdict, passes, refused_at, first_of, misplaced, unjudged}
use Rattle.circuit.specs.Table.{is_empty, edges_in_range, body_tests}
use Rattle.circuit.specs.Table.{field_tests, end_tests}
use Rattle.circuit.specs.Reading.{accepted, refusal, reading_of}
use Rattle.grading.specs.Buffers.{Buffers, room_of}
use Rattle.grading.specs.Values.{label_values}
use Rattle.grading.specs.Rows.{Row, no_instance}
use Rattle.grading.specs.Classes.{same_class}
use Rattle.grading.specs.Grading.{grading_of_circuit}
use Rattle.demands.specs.Calls.{Kept}
use Rattle.demands.specs.Graders.{Outcome, Grader, called, MeetsPromise, refusing, Work, outcome_of, work_by, testing}
use Rattle.demands.specs.Files.{nand_under}

-- ---- the limits of before

abbrev pub bytes_before : ℕ
bytes_before = 32768

-- edge fields of a type, however many labels they have
abbrev pub most_groups : ℕ
most_groups = 64

-- ---- a type by its groups

-- the group of an edge field, in a type with the output node o
unfoldable pub group_in : ℕ → List ℕ → Group
group_in o body = record {
  first = get_or body 0 0;
  second = get_or body 1 0;
  channel = channel_of o (get_or body 0 0) (get_or body 1 0);
  labels = drop 2 body;
}

-- under each of the 2^k settings of its labels the output is joined to exactly one of nodes 0 and 1, over the groups that are on
unfoldable pub groups_complementary : ModuleType → List Group → Bool
groups_complementary t groups = all_below (2 ^ t.labels) λ (s : ℕ).
    let ws = group_links (by_values (setting_of s)) groups in not (beq (joins ws t.output ground) (joins ws t.output supply))

-- ---- reading

-- what is known part of the way through a file: beside what is known today, in which a type has the edges of its groups, the groups of each
-- type
pub record GroupsKnown : Type 0 where
  pub known : Known
  pub groups : List (List Group)

abbrev pub groups_start : GroupsKnown
groups_start = record { known = start; groups = [] }

unfoldable pub latest_groups : List (List Group) → List Group
latest_groups groups = get_or groups (length groups - 1) []

unfoldable pub group_added : List (List Group) → Group → List (List Group)
group_added groups g = set groups (length groups - 1) (latest_groups groups ++ (g ∷ []))

unfoldable pub groups_with : Tag → GroupsKnown → List ℕ → List (List Group)
groups_with tag k body =
    cond (is_kind type_tag tag) (k.groups ++ ([] ∷ []))
    (cond (is_edge tag) (group_added k.groups (group_in (latest k.known.circuit.types).output body)) k.groups)

unfoldable pub groups_after : GroupsKnown → Field → GroupsKnown
groups_after k f = record { known = known_after k.known f; groups = groups_with (tag_of f.tag) k f.body }

-- the tests of an edge field in a type with `count` edge fields so far
unfoldable pub group_tests : ModuleType → ℕ → ℕ → List ℕ → List Test
group_tests t count at body =
    test 5 (not (between 3 6 (length body))) at
    ∷ test 6 (leb most_groups count) at
    ∷ test 7 (not (edges_in_range t.highest t.labels body)) at
    ∷ test 8 (bad_ends t.highest t.output (get_or body 0 0) (get_or body 1 0)) at
    ∷ []

unfoldable pub groups_failing : GroupsKnown → Bool
groups_failing k = not (groups_complementary (latest k.known.circuit.types) (latest_groups k.groups))

-- the tests of a field, and those of the end of the file; 9 asks the groups. Tag 7 was none of the tags
unfoldable pub groups_field_tests : GroupsKnown → Field → List Test
groups_field_tests k f =
    let tag = tag_of f.tag in
    let c = k.known.circuit in
    let count = length (latest_groups k.groups) in
    test 3 (is_unknown tag || is_kind (edge_tag stated) tag) f.at
    ∷ test 4 (misplaced k.known.previous tag) f.at
    ∷ test 9 (cond (unjudged k.known.previous && not (is_edge tag)) (groups_failing k) false) k.known.type_at
    ∷ cond (is_edge tag) (group_tests (latest c.types) count f.at f.body) (body_tests tag c f.at f.body)

unfoldable pub groups_end_tests : GroupsKnown → ℕ → List Test
groups_end_tests k size =
    test 9 (cond (unjudged k.known.previous) (groups_failing k) false) k.known.type_at
    ∷ test 14 (at_start k.known.previous) size
    ∷ test 14 (is_empty k.known.circuit.instances) size
    ∷ test 14 (is_empty k.known.circuit.vectors) size
    ∷ []

-- what was said of a file: the circuit, with the groups of each type, or the refusal
pub data GroupsReading : Type 0 where
  accepted_with : Circuit → List (List Group) → GroupsReading
  refused_with : ℕ → ℕ → GroupsReading

unfoldable pub unless_refused : Verdict → GroupsReading → GroupsReading
unless_refused passes reading = reading
unless_refused (refused_at number place) reading = refused_with number place

unfoldable pub groups_read_from : ℕ → GroupsKnown → Cut → GroupsReading
groups_read_from size k clean = unless_refused (first_of (groups_end_tests k size)) (accepted_with k.known.circuit k.groups)
groups_read_from size k (broken at) = refused_with 2 at
groups_read_from size k (field f rest) =
    let later = groups_read_from size (groups_after k f) rest in unless_refused (first_of (groups_field_tests k f)) later

unfoldable pub groups_reading : List ℕ → GroupsReading
groups_reading file =
    let whole = groups_read_from (length file) groups_start (cut_from file 0) in
    cond (ltb bytes_before (length file)) (refused_with 1 0) whole

-- ---- grading

-- the links of an instance's groups that are on
unfoldable pub instance_links : List (List Group) → Instance → (ℕ → Value) → List Link
instance_links groups i values = group_links (by_values values) (numbered groups i.type [])

-- the outputs of the instances, after those of the instances before them
unfoldable pub groups_outputs : List ModuleType → List (List Group) → List Value → List Value → List Instance → List Value
groups_outputs types groups vector outputs [] = outputs
groups_outputs types groups vector outputs (i ∷ is) =
    groups_outputs types groups vector
    (outputs ++ (level_in (instance_links groups i (label_values vector outputs i)) (type_of_instance types i).output ∷ [])) is

-- a mark: with the bridge closed, a path runs from supply to ground
unfoldable pub groups_mark : List (List Group) → Circuit → Row → ℕ → ℕ
groups_mark groups c row v =
    let vector = get_or c.vectors v [] in
    let values = label_values vector (groups_outputs c.types groups vector [] c.instances) row.instance in
    of_bool (joins (closing row.bridge values ++ instance_links groups row.instance values) supply ground)

-- 02, "How many rounds joining takes", which came later: the greatest distance in groups that are on
unfoldable pub groups_rounds : List (List Group) → Circuit → ℕ
groups_rounds groups c = greatest_to (length c.instances) λ (i : ℕ). greatest_to (length c.vectors) λ (v : ℕ).
    let vector = get_or c.vectors v [] in
    let instance = get_or c.instances i no_instance in
    deepest (instance_links groups instance (label_values vector (groups_outputs c.types groups vector [] c.instances) instance))

unfoldable pub groups_work : List (List Group) → Circuit → Work
groups_work groups c =
    let w = work_by row_of (groups_mark groups) same_class c in
    record { words = w.words; classes = w.classes; count_of_classes = w.count_of_classes; found = w.found; rounds = groups_rounds groups c }

unfoldable pub groups_outcome : GroupsReading → Buffers → Outcome
groups_outcome (accepted_with c groups) before = outcome_of (groups_work groups) (grading_of_circuit c (room_of before)) before
groups_outcome (refused_with number place) before = record { answer = refusing number place; after = before }

-- the grader of before
unfoldable pub groupwise : Grader
groupwise file before = groups_outcome (groups_reading file) before

-- ---- the statements

-- a field of what a file is cut into
unfoldable pub FieldOf : Cut → Field → Type 0
FieldOf clean f = ⊥
FieldOf (broken at) f = ⊥
FieldOf (field g rest) f = (f ≡ g) ⊎ FieldOf rest f

-- an edge field of the file, of this tag
pub record EdgeFieldOf (file : List ℕ) (tag : EdgeTag) (f : Field) : Type 0 where
  pub among : FieldOf (cut_from file 0) f
  pub edge : tag_of f.tag ≡ edge_tag tag

-- the files whose answer changes: those of 32,769 to 57,344 bytes, which were refused by 1; those that were refused by 6 at an edge field,
-- and are not refused so today; and those that were refused by 3 at a field with tag 7 (02, "Pass transistors")
pub data Changed (file : List ℕ) : Type 0 where
  longer : bytes_before < length file → length file ≤ 57344 → Changed file
  more_edges : (f : Field) → EdgeFieldOf file by_position f → groups_reading file ≡ refused_with 6 f.at
      → (reading_of file ≡ refusal 6 f.at → ⊥) → Changed file
  pass_field_lem : (f : Field) → EdgeFieldOf file stated f → groups_reading file ≡ refused_with 3 f.at → Changed file

-- the outcome of before keeps today's promise, or the file is one of these; never both
pub record AnsweredAsBefore : Type 0 where
  pub as_before : (file : List ℕ) (before : Buffers) → Kept (called groupwise file before) ⊎ Changed file
  pub changed : (file : List ℕ) (before : Buffers) → Changed file → Kept (called groupwise file before) → ⊥

-- what was accepted is accepted, as the same circuit, each type of which has the edges of its groups, in order; so its rows are the same,
-- and the report, which is made of them and of the outcome; a report of that time had no line for the rounds
abbrev pub AcceptedAsBefore : Type 0
AcceptedAsBefore =
    (file : List ℕ) (c : Circuit) (groups : List (List Group)) → groups_reading file ≡ accepted_with c groups
    → (reading_of file ≡ accepted c) × (map (λ (t : ModuleType). t.edges) c.types ≡ map of_groups groups)

-- one edge for each label, in order, a label that repeats each time: no answer of `grade` would show it
pub record GroupedFieldsRead : Type 0 where
  pub nand_file : reading_of (nand_under ("00" ∷ [])) ≡ accepted (record {
    inputs = 2;
    types = nand ∷ [];
    bridges = [];
    instances = record { type = 1; choice = exhaustive; references = primary 1 ∷ primary 2 ∷ [] } ∷ [];
    vectors = (at0 ∷ at0 ∷ []) ∷ [];
  })
  pub repeated : edges_in by_position 2 (0 ∷ 2 ∷ 3 ∷ 0 ∷ 3 ∷ []) ≡ edge 0 2 channel_n 3 ∷ edge 0 2 channel_n 0 ∷ edge 0 2 channel_n 3 ∷ []

-- ---- wrong ways to take edges: graders that differ in one test of a field with tag 3

unfoldable pub retested : ℕ → (Known → List ℕ → Bool) → Known → Field → Test → Test
retested number refuses known f t =
    cond (is_kind (edge_tag by_position) (tag_of f.tag) && eqb t.number number) (test number (refuses known f.body) t.place) t

abbrev pub edges_by : ℕ → (Known → List ℕ → Bool) → Grader
edges_by number refuses = testing (λ known f. map (retested number refuses known f) (field_tests known f)) (end_tests true)

abbrev pub edges_so_far : Known → ℕ
edges_so_far known = length (latest known.circuit.types).edges

-- the limit of before
unfoldable pub still_sixty_four : Grader
still_sixty_four = edges_by 6 λ known body. ltb 64 (edges_so_far known + (length body - 2))

-- it looks only whether the type is full already, so that a field can pass the limit
unfoldable pub looks_when_full : Grader
looks_when_full = edges_by 6 λ known body. leb 256 (edges_so_far known)

-- a field has one label, and an old one is refused
unfoldable pub refuses_groups : Grader
refuses_groups = edges_by 5 λ known body. not (eqb (length body) 3)

pub record WrongEdgesAreWrong : Type 0 where
  pub still_sixty_four_lem : MeetsPromise still_sixty_four → ⊥
  pub looks_when_full_lem : MeetsPromise looks_when_full → ⊥
  pub refuses_groups_lem : MeetsPromise refuses_groups → ⊥
