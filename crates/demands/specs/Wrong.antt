-- Wrong graders, each with its mistake and where that comes from, and the statement that it does not meet the promise of `grade`. Each is
-- right in all else (specs/Graders, `rightly`). 01's last paragraph names those of the first part, its "Slips my class makes" those of the
-- second, README those of the third, 02 those of the fourth; those of the fifth break 01's rules on lent memory.
-- The proofs, on small files, are in proofs/WrongProof.
use Rattle.std.specs.Prelude.{ℕ, zero, suc, ◌+◌, ◌*◌, min, Bool, true, false, cond, not, ◌&&◌, ◌||◌}
use Rattle.std.specs.Prelude.{List, [], ◌∷◌, ◌++◌, map, eqb, leb, ltb, length, get_or, take, replicate}
use Rattle.std.specs.Bool.{beq}
use Rattle.words.specs.Bits.{of_bool, pack, sum_to}
use Rattle.words.specs.Tables.{table, up_to}
use Rattle.words.specs.Rows.{row_of}
use Rattle.switch.specs.Conduction.{Value, at0, at1, at_x, Link, ground, supply}
use Rattle.switch.specs.Modules.{ModuleType, links_of}
use Rattle.switch.specs.Bridges.{Bridge, nodes, input, closing}
use Rattle.switch.specs.Depth.{is_among}
use Rattle.switch.specs.Deciding as deciding
use Rattle.switch.specs.Deciding.{joins, level_in, is_marked}
use Rattle.circuit.specs.Fields.{Field}
use Rattle.circuit.specs.Circuit.{Circuit}
use Rattle.circuit.specs.Known.{Known}
use Rattle.circuit.specs.Table.{Test, field_tests, end_tests}
use Rattle.grading.specs.Buffers.{room_of}
use Rattle.grading.specs.Rows.{Row, rows_of, row_values, mark_of}
use Rattle.grading.specs.Wires.{Wire, ground_wire, supply_wire, input_wire, output_wire, inner_wire}
use Rattle.grading.specs.Wires.{End, one_end, other_end, wire_of, leaks}
use Rattle.grading.specs.Classes.{same_pair, same_class, has_mark_by}
use Rattle.grading.specs.Grading.{Grading, graded, refused, grading_of}
use Rattle.grading.specs.Promise.{Answer, is_graded}
use Rattle.demands.specs.Graders.{Grader, MeetsPromise, refusing, testing, Work, grades_by, Packing, work_by, marks_by, right_work}
use Rattle.demands.specs.Graders.{rightly}

-- only the marks are wrong
abbrev pub marking : (Circuit → Row → ℕ → ℕ) → Grader
marking marks = grades_by (work_by row_of marks same_class)

-- ---- 01, "What the statements have to settle", last paragraph

-- refuses every file: 14 at the end where the table has no refusal
unfoldable pub refuses_every : Grader
refuses_every file before = record { answer = answer (grading_of file (room_of before)); after = before }
  where
    answer : Grading → Answer
    answer (graded c) = refusing 14 (length file)
    answer (refused n p) = refusing n p

abbrev pub RefusesEveryIsWrong : Type 0
RefusesEveryIsWrong = MeetsPromise refuses_every → ⊥

-- grades a file that the table refuses: it never looks at the tests of a field or of the end of the file that have one of the numbers
unfoldable pub without : ℕ → List Test → List Test
without n [] = []
without n (t ∷ ts) = let rest = without n ts in cond (eqb t.number n) rest (t ∷ rest)

abbrev pub skips : ℕ → Grader
skips n =
    testing
    (λ (known : Known) (f : Field). without n (field_tests known f))
    (λ (known : Known) (size : ℕ). without n (end_tests true known size))

-- it takes types that are not complementary
abbrev pub SkipsNineIsWrong : Type 0
SkipsNineIsWrong = MeetsPromise (skips 9) → ⊥

-- it takes files without an instance or a vector
abbrev pub SkipsFourteenIsWrong : Type 0
SkipsFourteenIsWrong = MeetsPromise (skips 14) → ⊥

-- marks all
unfoldable pub marks_all : Grader
marks_all = marking (λ (c : Circuit) (row : Row) (v : ℕ). 1)

abbrev pub MarksAllIsWrong : Type 0
MarksAllIsWrong = MeetsPromise marks_all → ⊥

-- never marks
unfoldable pub marks_never : Grader
marks_never = marking (λ (c : Circuit) (row : Row) (v : ℕ). 0)

abbrev pub MarksNeverIsWrong : Type 0
MarksNeverIsWrong = MeetsPromise marks_never → ⊥

-- leaves the matrix as found; its counts and classes are right
unfoldable pub leaves_matrix : Grader
leaves_matrix =
    grades_by λ (c : Circuit).
    let w = right_work c in
    record { words = []; classes = w.classes; count_of_classes = w.count_of_classes; found = w.found; rounds = w.rounds }

abbrev pub LeavesMatrixIsWrong : Type 0
LeavesMatrixIsWrong = MeetsPromise leaves_matrix → ⊥

-- grades the first 64 vectors and writes zeros for the rest
unfoldable pub first_word_only : Grader
first_word_only = marking λ (c : Circuit) (row : Row). up_to 64 (mark_of c row)

abbrev pub FirstWordOnlyIsWrong : Type 0
FirstWordOnlyIsWrong = MeetsPromise first_word_only → ⊥

-- invents the found count: all classes are found
unfoldable pub invents_found : Grader
invents_found =
    grades_by λ (c : Circuit).
    let w = right_work c in
    record { words = w.words; classes = w.classes; count_of_classes = w.count_of_classes; found = w.count_of_classes; rounds = w.rounds }

abbrev pub InventsFoundIsWrong : Type 0
InventsFoundIsWrong = MeetsPromise invents_found → ⊥

-- ---- 01, "Slips my class makes"

-- the mark rule by the ends, from a test for nodes that are joined
unfoldable pub label_marked : Value → Bool → Bool → Bool
label_marked at1 to_supply to_ground = to_ground
label_marked at0 to_supply to_ground = to_supply
label_marked at_x to_supply to_ground = false

unfoldable pub marked_by : (ℕ → ℕ → Bool) → (ℕ → Value) → Bridge → Bool
marked_by joined values (nodes a b) = joined a supply && joined b ground || joined a ground && joined b supply
marked_by joined values (input m l) = label_marked (values l) (joined m supply) (joined m ground)

-- slip 1: one sweep over the edges in node order, that of their lower nodes; an on edge hands on from either end to the other
unfoldable pub lower_node : Link → ℕ
lower_node w = min w.0 w.1

unfoldable pub put_in : Link → List Link → List Link
put_in w [] = w ∷ []
put_in w (u ∷ us) = let later = put_in w us in cond (leb (lower_node w) (lower_node u)) (w ∷ u ∷ us) (u ∷ later)

unfoldable pub in_node_order : List Link → List Link
in_node_order [] = []
in_node_order (w ∷ ws) = put_in w (in_node_order ws)

unfoldable pub handed_on : Link → List ℕ → List ℕ
handed_on w reached = cond (is_among w.0 reached) (w.1 ∷ reached) (cond (is_among w.1 reached) (w.0 ∷ reached) reached)

unfoldable pub swept : List Link → List ℕ → List ℕ
swept [] reached = reached
swept (w ∷ ws) reached = swept ws (handed_on w reached)

unfoldable pub sweeps_once : Grader
sweeps_once =
    marking (marks_by λ (t : ModuleType) (values : ℕ → Value).
    marked_by (λ (m rail : ℕ). is_among m (swept (in_node_order (links_of t values)) (rail ∷ []))) values)

abbrev pub SweepsOnceIsWrong : Type 0
SweepsOnceIsWrong = MeetsPromise sweeps_once → ⊥

-- slip 2: document 002's formula (label xor supply) and (not label xor ground), with one plane for a label, in which X is 0
unfoldable pub is_one : Value → Bool
is_one at1 = true
is_one at0 = false
is_one at_x = false

unfoldable pub unlike : Bool → Bool → Bool
unlike a b = not (beq a b)

unfoldable pub one_plane_marked : ModuleType → (ℕ → Value) → Bridge → Bool
one_plane_marked t values (nodes a b) = is_marked t values (nodes a b)
one_plane_marked t values (input m l) =
    let ws = links_of t values in
    unlike (is_one (values l)) (joins ws m supply) && unlike (not (is_one (values l))) (joins ws m ground)

unfoldable pub one_plane : Grader
one_plane = marking (marks_by one_plane_marked)

abbrev pub OnePlaneIsWrong : Type 0
OnePlaneIsWrong = MeetsPromise one_plane → ⊥

-- slip 3: a mark from one joined end and one floating end: it marks where the ends' levels differ, and a floating node has level X
unfoldable pub is_zero : Value → Bool
is_zero at0 = true
is_zero at1 = false
is_zero at_x = false

unfoldable pub same_level : Value → Value → Bool
same_level a b = beq (is_one a) (is_one b) && beq (is_zero a) (is_zero b)

unfoldable pub unequal_ends : ModuleType → (ℕ → Value) → Bridge → Bool
unequal_ends t values (nodes a b) = let ws = links_of t values in not (same_level (level_in ws a) (level_in ws b))
unequal_ends t values (input m l) = is_marked t values (input m l)

unfoldable pub marks_floating : Grader
marks_floating = marking (marks_by unequal_ends)

abbrev pub MarksFloatingIsWrong : Type 0
MarksFloatingIsWrong = MeetsPromise marks_floating → ⊥

-- slip 4: found counts rows instead of classes
unfoldable pub rows_found : ℕ → (Row → ℕ → ℕ) → List Row → ℕ
rows_found vectors marks [] = 0
rows_found vectors marks (row ∷ rows) = of_bool (has_mark_by vectors marks row) + rows_found vectors marks rows

unfoldable pub counts_rows : Grader
counts_rows =
    grades_by λ (c : Circuit). let w = right_work c in
    record {
      words = w.words;
      classes = w.classes;
      count_of_classes = w.count_of_classes;
      found = rows_found (length c.vectors) (mark_of c) (rows_of c);
      rounds = w.rounds;
    }

abbrev pub CountsRowsIsWrong : Type 0
CountsRowsIsWrong = MeetsPromise counts_rows → ⊥

-- slip 5: vectors that spill from one word into the next. A word of 63, as of a signed number: the 64th vector stands in the next word,
-- and vectors 253 to 256 vanish
unfoldable pub packed63 : Packing
packed63 vectors f = table 4 (λ (w : ℕ). pack 63 (λ (v : ℕ). up_to vectors f (63 * w + v)))

unfoldable pub spills : Grader
spills = grades_by (work_by packed63 mark_of same_class)

abbrev pub SpillsIsWrong : Type 0
SpillsIsWrong = MeetsPromise spills → ⊥

-- one whose 65th vector lands on bit 0 of word 0: all stand in the first word
unfoldable pub packed_first : Packing
packed_first vectors f = pack 64 (λ (v : ℕ). of_bool (ltb 0 (sum_to 4 (λ (w : ℕ). up_to vectors f (64 * w + v))))) ∷ 0 ∷ 0 ∷ 0 ∷ []

unfoldable pub wraps : Grader
wraps = grades_by (work_by packed_first mark_of same_class)

abbrev pub WrapsIsWrong : Type 0
WrapsIsWrong = MeetsPromise wraps → ⊥

-- and one whose marks go on past the last vector, where every input is X: 0-1 is marked there too
unfoldable pub goes_on : Grader
goes_on = grades_by (work_by (λ (vectors : ℕ). row_of 256) mark_of same_class)

abbrev pub GoesOnIsWrong : Type 0
GoesOnIsWrong = MeetsPromise goes_on → ⊥

-- ---- README, the mistakes of new engineers

-- the first: watches outputs instead of the leak. It marks where the closed bridge gives the module's output another value
unfoldable pub changes_output : ModuleType → (ℕ → Value) → Bridge → Bool
changes_output t values bridge =
    not (same_level (level_in (closing bridge values ++ links_of t values) t.output) (deciding.output_value t values))

unfoldable pub watches_outputs : Grader
watches_outputs = marking (marks_by changes_output)

abbrev pub WatchesOutputsIsWrong : Type 0
WatchesOutputsIsWrong = MeetsPromise watches_outputs → ⊥

-- the second: gives a floating node its last value, that under the vector before
unfoldable pub held : Value → Value → Value
held at1 last = at1
held at0 last = at0
held at_x last = last

unfoldable pub row_values_at : Circuit → Row → ℕ → ℕ → Value
row_values_at c row v = row_values c (get_or c.vectors v []) row

unfoldable pub level_at : Circuit → Row → ℕ → ℕ → Value
level_at c row v m = level_in (links_of row.type (row_values_at c row v)) m

unfoldable pub held_level : Circuit → Row → ℕ → ℕ → Value
held_level c row zero m = level_at c row zero m
held_level c row (suc v) m = held (level_at c row (suc v) m) (held_level c row v m)

unfoldable pub held_marked : Circuit → Row → ℕ → Bridge → Bool
held_marked c row v (nodes a b) = leaks (held_level c row v a) (held_level c row v b)
held_marked c row v (input m l) = leaks (row_values_at c row v l) (held_level c row v m)

unfoldable pub holds_levels : Grader
holds_levels = marking λ (c : Circuit) (row : Row) (v : ℕ). of_bool (held_marked c row v row.bridge)

abbrev pub HoldsLevelsIsWrong : Type 0
HoldsLevelsIsWrong = MeetsPromise holds_levels → ⊥

-- the third: counts one short twice. A bridge that is listed from both ends is two classes
unfoldable pub same_as_written : Bridge → Bridge → Bool
same_as_written (nodes a b) (nodes c d) = eqb a c && eqb b d
same_as_written (nodes a b) (input m l) = true
same_as_written (input m l) (nodes a b) = true
same_as_written (input m l) (input n k) = true

unfoldable pub counts_twice : Grader
counts_twice = grades_by (work_by row_of mark_of (λ (r s : Row). same_class r s && same_as_written r.bridge s.bridge))

abbrev pub CountsTwiceIsWrong : Type 0
CountsTwiceIsWrong = MeetsPromise counts_twice → ⊥

-- and labels with equal references are two
unfoldable pub same_label_too : Bridge → Bridge → Bool
same_label_too (nodes a b) (nodes c d) = true
same_label_too (nodes a b) (input m l) = true
same_label_too (input m l) (nodes a b) = true
same_label_too (input m l) (input n k) = eqb l k

unfoldable pub counts_labels : Grader
counts_labels = grades_by (work_by row_of mark_of (λ (r s : Row). same_class r s && same_label_too r.bridge s.bridge))

abbrev pub CountsLabelsIsWrong : Type 0
CountsLabelsIsWrong = MeetsPromise counts_labels → ⊥

-- the fourth: puts 0 for an input that nobody fixed
unfoldable pub zero_for_x : Value → Value
zero_for_x at1 = at1
zero_for_x at0 = at0
zero_for_x at_x = at0

unfoldable pub zeroed : Circuit → Circuit
zeroed c = record {
  inputs = c.inputs;
  types = c.types;
  bridges = c.bridges;
  instances = c.instances;
  vectors = map (map zero_for_x) c.vectors;
}

unfoldable pub reads_x_as_zero : Grader
reads_x_as_zero = marking λ (c : Circuit). mark_of (zeroed c)

abbrev pub ReadsXAsZeroIsWrong : Type 0
ReadsXAsZeroIsWrong = MeetsPromise reads_x_as_zero → ⊥

-- ---- 02, "One wire, one short"

-- keeps instances apart: rows of two instances are never one class, as 01 had it
unfoldable pub keeps_apart : Grader
keeps_apart = grades_by (work_by row_of mark_of (λ (r s : Row). eqb r.number s.number && same_class r s))

abbrev pub KeepsApartIsWrong : Type 0
KeepsApartIsWrong = MeetsPromise keeps_apart → ⊥

-- takes all inner nodes that are numbered alike for one wire
unfoldable pub without_instance : Wire → Wire
without_instance ground_wire = ground_wire
without_instance supply_wire = supply_wire
without_instance (input_wire n) = input_wire n
without_instance (output_wire n) = output_wire n
without_instance (inner_wire n m) = inner_wire 0 m

unfoldable pub mixes_inner : Grader
mixes_inner =
    grades_by (work_by row_of mark_of (λ (r s : Row).
    let wire : Row → End → Wire = λ row end. without_instance (wire_of row end) in
    same_pair (wire r one_end) (wire r other_end) (wire s one_end) (wire s other_end)))

abbrev pub MixesInnerIsWrong : Type 0
MixesInnerIsWrong = MeetsPromise mixes_inner → ⊥

-- takes a primary input for a wire of its own in each instance that it feeds
unfoldable pub input_of_instance : ℕ → Wire → Wire
input_of_instance i ground_wire = ground_wire
input_of_instance i supply_wire = supply_wire
input_of_instance i (input_wire n) = inner_wire i (32 + n)
input_of_instance i (output_wire n) = output_wire n
input_of_instance i (inner_wire n m) = inner_wire n m

unfoldable pub splits_inputs : Grader
splits_inputs =
    grades_by (work_by row_of mark_of (λ (r s : Row).
    let wire : Row → End → Wire = λ row end. input_of_instance row.number (wire_of row end) in
    same_pair (wire r one_end) (wire r other_end) (wire s one_end) (wire s other_end)))

abbrev pub SplitsInputsIsWrong : Type 0
SplitsInputsIsWrong = MeetsPromise splits_inputs → ⊥

-- ---- 01, on lent memory: past the end of an answer it keeps its contents, and a refusal leaves it unwritten

-- clears the word past its last row, where there is one
unfoldable pub clearing_next : Circuit → Work
clearing_next c =
    let w = right_work c in
    record { words = w.words ++ (0 ∷ []); classes = w.classes; count_of_classes = w.count_of_classes; found = w.found; rounds = w.rounds }

unfoldable pub writes_past : Grader
writes_past file before =
    let out = grades_by clearing_next file before in record {
      answer = out.answer;
      after = record { matrix = take (length before.matrix) out.after.matrix; classes = out.after.classes };
    }

abbrev pub WritesPastIsWrong : Type 0
WritesPastIsWrong = MeetsPromise writes_past → ⊥

-- writes zeros into the matrix, then refuses
unfoldable pub clears_first : Grader
clears_first file before =
    let out = rightly file before in record {
      answer = out.answer;
      after = record {
        matrix = cond (is_graded out.answer) out.after.matrix (replicate (length before.matrix) 0);
        classes = out.after.classes;
      };
    }

abbrev pub ClearsFirstIsWrong : Type 0
ClearsFirstIsWrong = MeetsPromise clears_first → ⊥
