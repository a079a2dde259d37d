-- 02, "One wire, one short": two rows are in one class exactly when their bridges join the same two wires, either way round, whichever
-- instances list them. 01, "Faults, marks and classes": classes are numbered from 1 at their first row; the search for a row's class stops
-- at the first earlier row that matches. A class is found when a row of it has a mark.
use Rattle.std.specs.Prelude.{ℕ, suc, max, Bool, false, cond, ◌&&◌, ◌||◌, List, [], ◌∷◌, ◌++◌, eqb, ltb, length}
use Rattle.words.specs.Bits.{of_bool, sum_to}
use Rattle.circuit.specs.Circuit.{Circuit}
use Rattle.grading.specs.Rows.{Row, rows_of, mark_of}
use Rattle.grading.specs.Wires.{Wire, ground_wire, supply_wire, input_wire, output_wire, inner_wire, one_end, other_end, wire_of}

-- of the five sorts of wires, which
unfoldable pub wire_sort : Wire → ℕ
wire_sort ground_wire = 0
wire_sort supply_wire = 1
wire_sort (input_wire n) = 2
wire_sort (output_wire n) = 3
wire_sort (inner_wire n m) = 4

-- the number of its input or of its instance, 0 for a rail
unfoldable pub wire_owner : Wire → ℕ
wire_owner ground_wire = 0
wire_owner supply_wire = 0
wire_owner (input_wire n) = n
wire_owner (output_wire n) = n
wire_owner (inner_wire n m) = n

-- the number of its node, 0 where it has none
unfoldable pub wire_node : Wire → ℕ
wire_node ground_wire = 0
wire_node supply_wire = 0
wire_node (input_wire n) = 0
wire_node (output_wire n) = 0
wire_node (inner_wire n m) = m

-- are two wires one
unfoldable pub same_wire : Wire → Wire → Bool
same_wire v w = eqb (wire_sort v) (wire_sort w) && eqb (wire_owner v) (wire_owner w) && eqb (wire_node v) (wire_node w)

-- are two pairs of wires the same, either way round
unfoldable pub same_pair : Wire → Wire → Wire → Wire → Bool
same_pair a b c d = same_wire a c && same_wire b d || same_wire a d && same_wire b c

unfoldable pub same_class : Row → Row → Bool
same_class r s = same_pair (wire_of r one_end) (wire_of r other_end) (wire_of s one_end) (wire_of s other_end)

-- ---- class numbers of any things, here called rows, by a test for one class

-- the class of a row: that of the first earlier row that matches, else the next new number.
-- The earlier rows come with their classes, in order
unfoldable pub class_among_by : {A : Type 0} → (A → A → Bool) → A → ℕ → List A → List ℕ → ℕ
class_among_by same row new [] classes = new
class_among_by same row new (r ∷ rs) [] = new
class_among_by same row new (r ∷ rs) (n ∷ ns) = let later = class_among_by same row new rs ns in cond (same r row) n later

-- the number of classes so far: the largest number given
unfoldable pub largest : List ℕ → ℕ
largest [] = 0
largest (n ∷ ns) = max n (largest ns)

unfoldable pub classes_after_by : {A : Type 0} → (A → A → Bool) → List A → List ℕ → List A → List ℕ
classes_after_by same before classes [] = classes
classes_after_by same before classes (row ∷ rows) =
    classes_after_by same (before ++ (row ∷ [])) (classes ++ (class_among_by same row (suc (largest classes)) before classes ∷ [])) rows

unfoldable pub classes_by : {A : Type 0} → (A → A → Bool) → List A → List ℕ
classes_by same rows = classes_after_by same [] [] rows

-- ---- found classes, by the marks of rows under so many vectors

-- has a row a mark
unfoldable pub has_mark_by : {A : Type 0} → ℕ → (A → ℕ → ℕ) → A → Bool
has_mark_by vectors marks row = ltb 0 (sum_to vectors (marks row))

-- has a row of class n a mark
unfoldable pub class_found_by : {A : Type 0} → ℕ → (A → ℕ → ℕ) → ℕ → List A → List ℕ → Bool
class_found_by vectors marks n [] classes = false
class_found_by vectors marks n (r ∷ rs) [] = false
class_found_by vectors marks n (r ∷ rs) (m ∷ ms) = eqb m n && has_mark_by vectors marks r || class_found_by vectors marks n rs ms

-- of the classes 1 to `count`, how many are found
unfoldable pub found_by : {A : Type 0} → ℕ → (A → ℕ → ℕ) → List A → List ℕ → ℕ → ℕ
found_by vectors marks rows classes count = sum_to count (λ (n : ℕ). of_bool (class_found_by vectors marks (suc n) rows classes))

-- ---- a circuit's: by `same_class`, and by the marks under its vectors

abbrev pub classes_of : List Row → List ℕ
classes_of = classes_by same_class

abbrev pub has_mark : Circuit → Row → Bool
has_mark c = has_mark_by (length c.vectors) (mark_of c)

abbrev pub class_found : Circuit → ℕ → List Row → List ℕ → Bool
class_found c = class_found_by (length c.vectors) (mark_of c)

abbrev pub found_among : Circuit → List Row → List ℕ → ℕ → ℕ
found_among c = found_by (length c.vectors) (mark_of c)

abbrev pub class_count : Circuit → ℕ
class_count c = largest (classes_of (rows_of c))

unfoldable pub found_count : Circuit → ℕ
found_count c = found_among c (rows_of c) (classes_of (rows_of c)) (class_count c)
