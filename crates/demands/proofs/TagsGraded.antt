-- The tags of edges change no answer (specs/PassTransistors). A circuit without its tags has the same rows but for the tags in their types, the same marks and
-- the same wires; so the work on it is the same, and with it the whole outcome. Assumes nothing.
use Prim.Native.Nat.{ℕ, zero, suc, ◌*◌}
use mathlib.Core.Path.{◌≡◌, refl, sym, ap, ap₂, ◌∙◌, fun_ext}
use mathlib.Core.Bool.{Bool, true, false, cond}
use mathlib.Core.List.{List, [], ◌∷◌, ◌++◌, map, map-map, map-append}
use lib.Dec.{ltb}
use lib.ListN.{length, get_or, length-map, get_or-map}
use Rattle.words.specs.Bits.{of_bool}
use Rattle.words.specs.Rows.{row_of}
use Rattle.switch.specs.Conduction.{Value, by_values, Link, ground, supply}
use Rattle.switch.specs.Modules.{ModuleType, links_of}
use Rattle.switch.specs.Bridges.{Bridge, nodes, input, closing}
use Rattle.switch.specs.Deciding.{joins, level_in, is_marked}
use Rattle.switch.specs.Depth.{deepest}
use Rattle.switch.specs.Tags.{untagged_type}
use Rattle.switch.proofs.Tags.{tags_conduct_nothing}
use Rattle.circuit.specs.Circuit.{Circuit, Instance, Listed, Choice, exhaustive, no_faults, list}
use Rattle.circuit.specs.Circuit.{numbered, no_type, type_of_instance, chosen, faults_of, join_lists}
use Rattle.circuit.specs.Reading.{Reading}
use Rattle.grading.specs.Buffers.{Buffers, room_of}
use Rattle.grading.specs.Values.{label_values, outputs_after, outputs_of}
use Rattle.grading.specs.Rows.{Row, no_instance, rows_of_instance, rows_from, rows_of, row_values, cell, mark_of}
use Rattle.grading.specs.Wires.{End, one_end, other_end, wire_at}
use Rattle.grading.specs.Classes.{same_class, largest, classes_by, has_mark_by, class_found_by, found_by}
use Rattle.grading.specs.Rounds.{type_at, values_at, links_at, instance_rounds, rounds_of}
use Rattle.grading.specs.Grading.{graded, refused, grading_of_circuit, after_reading, grading_of}
use Rattle.grading.proofs.ClassLists.{classes_keyed}
use Rattle.grading.proofs.RoundLaws.{rounds_cong}
use Rattle.demands.specs.Calls.{Call, Kept, Accepts}
use Rattle.demands.specs.Graders.{Outcome, Work, outcome_of, grades_by, work_by, right_work, rightly}
use Rattle.demands.specs.PassTransistors.{untagged_circuit, TagsChangeNoAnswer}
use Rattle.demands.proofs.Outcomes.{answered_once}
use Rattle.demands.proofs.RightProof.{rightly_is_right}

-- ---- types and their links

links-untagged : (t : ModuleType) (values : ℕ → Value) → links_of (untagged_type t) values ≡ links_of t values
unfolding links_of untagged_type
links-untagged t values = tags_conduct_nothing.same_links (by_values values) t.edges

-- no type, past the last, has no edges and so no tags
type-untagged : (types : List ModuleType) (n : ℕ) → numbered (map untagged_type types) n no_type ≡ untagged_type (numbered types n no_type)
unfolding numbered untagged_type
type-untagged types zero = refl
type-untagged types (suc n) = get_or-map untagged_type types n no_type

outputs-untagged : (types : List ModuleType) (vector outputs : List Value) (is : List Instance)
    → outputs_after (map untagged_type types) vector outputs is ≡ outputs_after types vector outputs is
unfolding outputs_after untagged_type
outputs-untagged types vector outputs [] = refl
outputs-untagged types vector outputs (i ∷ is) =
    let t = type_of_instance types i in
    let values = label_values vector outputs i in
    rw (type-untagged types i.type, links-untagged t values)
    (outputs-untagged types vector (outputs ++ (level_in (links_of t values) t.output ∷ [])) is)

-- ---- rows

-- a row, the tags gone from its type
untagged_row : Row → Row
untagged_row row = record { number = row.number; instance = row.instance; type = untagged_type row.type; bridge = row.bridge }

-- which bridges an instance has does not ask for edges
chosen-untagged : (t : ModuleType) (bridges : List Listed) (choice : Choice) → chosen (untagged_type t) bridges choice ≡ chosen t bridges choice
unfolding chosen untagged_type
chosen-untagged t bridges exhaustive = refl
chosen-untagged t bridges no_faults = refl
chosen-untagged t bridges (list n) = refl

-- the row of a bridge of instance n, which is i and has the type t
abbrev row_typed : ℕ → Instance → ModuleType → Bridge → Row
row_typed n i t b = record { number = n; instance = i; type = t; bridge = b }

instance-untagged : (types : List ModuleType) (bridges : List Listed) (n : ℕ) (i : Instance)
    → rows_of_instance (map untagged_type types) bridges n i ≡ map untagged_row (rows_of_instance types bridges n i)
unfolding rows_of_instance faults_of untagged_row
instance-untagged types bridges n i =
    let t = type_of_instance types i in
    ap (λ (u : ModuleType). map (row_typed n i u) (chosen u bridges i.choice)) (type-untagged types i.type)
    ∙ ap (map (row_typed n i (untagged_type t))) (chosen-untagged t bridges i.choice)
    ∙ sym (map-map untagged_row (row_typed n i t) (chosen t bridges i.choice))

rows-from-untagged : (types : List ModuleType) (bridges : List Listed) (n : ℕ) (is : List Instance)
    → rows_from (map untagged_type types) bridges n is ≡ map untagged_row (rows_from types bridges n is)
unfolding rows_from
rows-from-untagged types bridges n [] = refl
rows-from-untagged types bridges n (i ∷ is) =
    ap₂ (λ (l m : List Row). l ++ m) (instance-untagged types bridges n i) (rows-from-untagged types bridges (suc n) is)
    ∙ sym (map-append untagged_row (rows_of_instance types bridges n i) (rows_from types bridges (suc n) is))

rows-untagged : (c : Circuit) → rows_of (untagged_circuit c) ≡ map untagged_row (rows_of c)
unfolding rows_of untagged_circuit
rows-untagged c = rows-from-untagged c.types c.bridges 1 c.instances

count-untagged : (c : Circuit) → length (rows_of (untagged_circuit c)) ≡ length (rows_of c)
count-untagged c = ap length (rows-untagged c) ∙ length-map (rows_of c) untagged_row

-- ---- marks

marks-untagged : (c : Circuit) → (λ (row : Row). mark_of (untagged_circuit c) (untagged_row row)) ≡ mark_of c
unfolding mark_of cell is_marked row_values outputs_of untagged_row untagged_circuit
marks-untagged c = fun_ext (λ row. fun_ext (λ v.
    let vector = get_or c.vectors v [] in
    rw (outputs-untagged c.types vector [] c.instances)
    (let values = label_values vector (outputs_after c.types vector [] c.instances) row.instance in
    ap (λ (ws : List Link). of_bool (joins (closing row.bridge values ++ ws) supply ground)) (links-untagged row.type values))))

-- ---- rounds

links-at-untagged : (c : Circuit) (i v : ℕ) → links_at (untagged_circuit c) i v ≡ links_at c i v
unfolding links_at type_at values_at outputs_of untagged_circuit
links-at-untagged c i v =
    let vector = get_or c.vectors v [] in
    let inst = get_or c.instances i no_instance in
    rw (outputs-untagged c.types vector [] c.instances, type-untagged c.types inst.type)
    (links-untagged (type_of_instance c.types inst) (label_values vector (outputs_after c.types vector [] c.instances) inst))

rounds-untagged : (c : Circuit) → rounds_of (untagged_circuit c) ≡ rounds_of c
unfolding rounds_of instance_rounds untagged_circuit
rounds-untagged c =
    rounds_cong (length c.instances) (length c.vectors) _ (links_at c) (λ i v. ap deepest (links-at-untagged c i v))

-- ---- classes

-- wires ask a type for its output node only
wire_untagged : (row : Row) (b : Bridge) (end : End) → wire_at (untagged_row row) b end ≡ wire_at row b end
unfolding wire_at untagged_row untagged_type
wire_untagged row (nodes a b) one_end = refl
wire_untagged row (nodes a b) other_end = refl
wire_untagged row (input m l) one_end = refl
wire_untagged row (input m l) other_end = refl

class-untagged : (r s : Row) → same_class (untagged_row r) (untagged_row s) ≡ same_class r s
unfolding same_class untagged_row
class-untagged r s =
    rw (
      wire_untagged r r.bridge one_end,
      wire_untagged r r.bridge other_end,
      wire_untagged s s.bridge one_end,
      wire_untagged s s.bridge other_end,
    )

classes-untagged : (rows : List Row) → classes_by same_class (map untagged_row rows) ≡ classes_by same_class rows
classes-untagged rows = sym (classes_keyed same_class same_class untagged_row rows (λ row m r k. class-untagged r row))

-- the classes of images are found by the marks of the images
found_of_images : {A B : Type 0} (f : A → B) (n : ℕ) (marks : B → ℕ → ℕ) (class : ℕ) (rows : List A) (classes : List ℕ)
    → class_found_by n marks class (map f rows) classes ≡ class_found_by n (λ (a : A). marks (f a)) class rows classes
unfolding class_found_by has_mark_by
found_of_images f n marks class [] classes = refl
found_of_images f n marks class (r ∷ rs) [] = refl
found_of_images f n marks class (r ∷ rs) (m ∷ ms) = rw (found_of_images f n marks class rs ms)

-- ---- the work

-- by the number of vectors, the rounds, the marks and the rows
work_of : ℕ → ℕ → (Row → ℕ → ℕ) → List Row → Work
work_of n rounds marks rows =
    let classes = classes_by same_class rows in record {
      words = join_lists (map (λ (row : Row). row_of n (marks row)) rows);
      classes = classes;
      count_of_classes = largest classes;
      found = found_by n marks rows classes (largest classes);
      rounds = rounds;
    }

work_of_untagged : (n rounds : ℕ) (marks : Row → ℕ → ℕ) (rows : List Row)
    → work_of n rounds marks (map untagged_row rows) ≡ work_of n rounds (λ (row : Row). marks (untagged_row row)) rows
unfolding work_of found_by
work_of_untagged n rounds marks rows =
    let classes = classes_by same_class rows in
    let of-images : ℕ → ℕ = λ class. of_bool (class_found_by n marks (suc class) (map untagged_row rows) classes) in
    let of-rows : ℕ → ℕ = λ class. of_bool (class_found_by n (λ (row : Row). marks (untagged_row row)) (suc class) rows classes) in
    let found : of-images ≡ of-rows = fun_ext (λ class. ap of_bool (found_of_images untagged_row n marks (suc class) rows classes)) in
    rw (classes-untagged rows, map-map (λ (row : Row). row_of n (marks row)) untagged_row rows, found)

work-untagged : (c : Circuit) → right_work (untagged_circuit c) ≡ right_work c
unfolding right_work work_by work_of untagged_circuit
work-untagged c =
    let n = length c.vectors in
    let rounds = rounds_of (untagged_circuit c) in
    ap (work_of n rounds (mark_of (untagged_circuit c))) (rows-untagged c)
    ∙ work_of_untagged n rounds (mark_of (untagged_circuit c)) (rows_of c)
    ∙ ap (λ (marks : Row → ℕ → ℕ). work_of n rounds marks (rows_of c)) (marks-untagged c)
    ∙ ap (λ (m : ℕ). work_of n m (mark_of c) (rows_of c)) (rounds-untagged c)

-- ---- the outcome

-- of a call whose file is read as this circuit, with these buffers lent
outcome_for : Circuit → Buffers → Outcome
outcome_for c before = outcome_of right_work (grading_of_circuit c (room_of before)) before

graded-untagged : (c : Circuit) (before : Buffers)
    → outcome_of right_work (graded (untagged_circuit c)) before ≡ outcome_of right_work (graded c) before
unfolding outcome_of untagged_circuit
graded-untagged c before = rw (work-untagged c, count-untagged c)

-- as many faults need as much room, so both are refused or both graded
outcome-untagged : (c : Circuit) (before : Buffers) → outcome_for (untagged_circuit c) before ≡ outcome_for c before
unfolding outcome_for grading_of_circuit
outcome-untagged c before =
    let faults = length (rows_of c) in
    rw (count-untagged c) (go (ltb (length before.matrix) (4 * faults)) (ltb (length before.classes) faults))
  where
    go : (short few : Bool)
        → let faults = length (rows_of c) in
        outcome_of right_work (cond short (refused 15 (4 * faults)) (cond few (refused 22 faults) (graded (untagged_circuit c)))) before
        ≡ outcome_of right_work (cond short (refused 15 (4 * faults)) (cond few (refused 22 faults) (graded c))) before
    go true few = refl
    go false true = refl
    go false false = graded-untagged c before

-- the promise leaves a call no other outcome
outcome_is : (call : Call) (c : Circuit) → Kept call → Accepts call.file c
    → record { answer = call.answer; after = call.after } ≡ outcome_for c call.before
unfolding outcome_for rightly grades_by grading_of after_reading
outcome_is call c kept accepts =
    let same = answered_once kept (rightly_is_right call.file call.before) in
    (λ i. record { answer = same.0 i; after = same.1 i })
    ∙ ap (λ (r : Reading). outcome_of right_work (after_reading r (room_of call.before)) call.before) accepts

pub tags_change_no_answer : TagsChangeNoAnswer
tags_change_no_answer one other c d kept kept' accepts accepts' same before =
    let first : Outcome = record { answer = one.answer; after = one.after } in
    let second : Outcome = record { answer = other.answer; after = other.after } in
    let equal : first ≡ second =
    outcome_is one c kept accepts
    ∙ sym (outcome-untagged c one.before)
    ∙ ap₂ outcome_for same before
    ∙ outcome-untagged d other.before
    ∙ sym (outcome_is other d kept' accepts') in
    record { answer = ap (λ (o : Outcome). o.answer) equal; buffers = ap (λ (o : Outcome). o.after) equal }
