-- Demand 2. A cell is marked exactly when, with the bridge closed, a path of switched-on transistors and the bridge runs from supply
-- to ground. A bridged input counts as supply at 1, as ground at 0; an X switches nothing on. In accepted files a column depends on
-- circuit, fault list and its own vector only. Each class of equal bridges counts once; which bridges are one class, 02 says ("One wire,
-- one short").
use Rattle.std.specs.Prelude.{ℕ, suc, ◌≤◌, ◌<◌, ◌≡◌, ◌⊎◌, ◌↔◌, length, get_or}
use mathlib.Core.List.{List, [], ◌∷◌, ◌++◌, Memᴰ}
use Rattle.words.specs.Bits.{sum_to}
use Rattle.switch.specs.Conduction.{Value, at_x, Link, Joined, ground, supply}
use Rattle.switch.specs.Modules.{links_of, OutputIs}
use Rattle.switch.specs.Bridges.{Bridge, nodes, input, MarkedByEnds}
use Rattle.circuit.specs.Circuit.{Circuit, Listed, Instance, list, numbered, type_of_instance}
use Rattle.grading.specs.Values.{label_values, outputs_of}
use Rattle.grading.specs.Rows.{Row, row_with, no_instance, no_row, rows_of, row_values, CellMarked}
use Rattle.grading.specs.Wires.{one_end, other_end, wire_of}
use Rattle.grading.specs.Promise.{counts_of}
use Rattle.demands.specs.Calls.{Call, Accepts, GradedAs, cell_at, class_at}

-- the row at a place, counted from 0. Past the last row there is none, and `no_row` stands for it
abbrev pub row_at : Circuit → ℕ → Row
row_at c r = get_or (rows_of c) r no_row

-- the vector at a place, counted from 0
abbrev pub vector_of : Circuit → ℕ → List Value
vector_of c v = get_or c.vectors v []

-- a cell of a circuit's matrix: the places of its row and of its vector, where there are such
pub record MatrixCell (c : Circuit) : Type 0 where
  pub row : ℕ
  pub vector : ℕ
  pub is_row : row < length (rows_of c)
  pub is_vector : vector < length c.vectors

abbrev pub row_of_cell : {c : Circuit} → MatrixCell c → Row
row_of_cell {c} cell = row_at c cell.row

abbrev pub vector_of_cell : {c : Circuit} → MatrixCell c → List Value
vector_of_cell {c} cell = vector_of c cell.vector

-- what a call left in a cell: 1 is a mark, 0 is none
abbrev pub mark_in : {c : Circuit} → Call → MatrixCell c → ℕ
mark_in call cell = cell_at call.after.matrix cell.row cell.vector

-- the values of the labels of a cell's instance under its vector, and the links of the edges that are on then
abbrev pub values_in : {c : Circuit} → MatrixCell c → ℕ → Value
values_in {c} cell = row_values c (vector_of_cell cell) (row_of_cell cell)

abbrev pub links_in : {c : Circuit} → MatrixCell c → List Link
links_in {c} cell = links_of (row_of_cell cell).type (values_in cell)

-- ---- values

-- one output for each instance, each by paths in it, where its labels have the values of their references
pub record Settled (c : Circuit) (vector outputs : List Value) : Type 0 where
  pub one_each : length outputs ≡ length c.instances
  pub by_paths : (none : Instance) (i : ℕ) → i < length c.instances
      → OutputIs (type_of_instance c.types (get_or c.instances i none)) (label_values vector outputs (get_or c.instances i none))
      (get_or outputs i at_x)

-- the outputs that rows are read from are settled, and no others are
pub record ValuesTell (c : Circuit) (vector : List Value) : Type 0 where
  pub settled : Settled c vector (outputs_of c.types vector c.instances)
  pub only : (outputs : List Value) → Settled c vector outputs → outputs ≡ outputs_of c.types vector c.instances

abbrev pub ValuesArePaths : Type 0
ValuesArePaths = (file : List ℕ) (c : Circuit) → Accepts file c → (vector : List Value) → ValuesTell c vector

-- ---- cells

-- CellMarked c vector row: with the row's bridge closed, a path runs from supply to ground in the row's instance under this vector
pub record CellsTell (call : Call) (c : Circuit) : Type 0 where
  pub marked : (cell : MatrixCell c) → (mark_in call cell ≡ 1) ↔ CellMarked c (vector_of_cell cell) (row_of_cell cell)
  pub not_marked : (cell : MatrixCell c) → (mark_in call cell ≡ 0) ↔ (CellMarked c (vector_of_cell cell) (row_of_cell cell) → ⊥)
  pub by_ends : (cell : MatrixCell c)
      → (mark_in call cell ≡ 1) ↔ MarkedByEnds (row_of_cell cell).type (values_in cell) (row_of_cell cell).bridge
  pub not_without_the_bridge : (cell : MatrixCell c) → Joined (links_in cell) supply ground → ⊥
  pub past_the_last_vector : (r v : ℕ) → r < length (rows_of c) → length c.vectors ≤ v → v < 256 → cell_at call.after.matrix r v ≡ 0

abbrev pub CellIsPath : Type 0
CellIsPath = (call : Call) (c : Circuit) → GradedAs call c → CellsTell call c

-- ---- floating nodes

-- a node of a cell's instance that is joined to neither rail under its vector
pub record Floats {c : Circuit} (cell : MatrixCell c) (m : ℕ) : Type 0 where
  pub not_to_supply : Joined (links_in cell) m supply → ⊥
  pub not_to_ground : Joined (links_in cell) m ground → ⊥

-- a bridge with an end that floats, or whose label is X, is not marked
pub record FloatingNever (call : Call) (c : Circuit) : Type 0 where
  pub first : (cell : MatrixCell c) (a b : ℕ) → (row_of_cell cell).bridge ≡ nodes a b → Floats cell a → mark_in call cell ≡ 0
  pub second : (cell : MatrixCell c) (a b : ℕ) → (row_of_cell cell).bridge ≡ nodes a b → Floats cell b → mark_in call cell ≡ 0
  pub node : (cell : MatrixCell c) (m l : ℕ) → (row_of_cell cell).bridge ≡ input m l → Floats cell m → mark_in call cell ≡ 0
  pub label : (cell : MatrixCell c) (m l : ℕ) → (row_of_cell cell).bridge ≡ input m l → values_in cell l ≡ at_x → mark_in call cell ≡ 0

abbrev pub FloatingNeverMarks : Type 0
FloatingNeverMarks = (call : Call) (c : Circuit) → GradedAs call c → FloatingNever call c

-- ---- columns

-- the same circuit and fault list, under other vectors
pub record AlikeButVectors (c d : Circuit) : Type 0 where
  pub inputs : c.inputs ≡ d.inputs
  pub types : c.types ≡ d.types
  pub bridges : c.bridges ≡ d.bridges
  pub instances : c.instances ≡ d.instances

-- columns of equal vectors are equal, in whichever files and wherever in them they stand
abbrev pub ColumnIsOfItsVector : Type 0
ColumnIsOfItsVector =
    (one other : Call) (c d : Circuit) → GradedAs one c → GradedAs other d → AlikeButVectors c d
    → (cell : MatrixCell c) (its : MatrixCell d) → cell.row ≡ its.row → vector_of_cell cell ≡ vector_of_cell its
    → mark_in one cell ≡ mark_in other its

-- ---- classes

-- 02, "One wire, one short": two rows are in one class exactly when their bridges join the same two wires, either way round
unfoldable pub OneClass : Row → Row → Type 0
OneClass r s =
    ((wire_of r one_end ≡ wire_of s one_end) × (wire_of r other_end ≡ wire_of s other_end))
    ⊎ ((wire_of r one_end ≡ wire_of s other_end) × (wire_of r other_end ≡ wire_of s one_end))

-- some row of class n has a mark under some vector
pub record Found (call : Call) (c : Circuit) (n : ℕ) : Type 0 where
  pub cell : MatrixCell c
  pub of_class : class_at call.after.classes cell.row ≡ n
  pub mark : mark_in call cell ≡ 1

-- two rows have one class number exactly when they join the same two wires. The numbers are 1 to the count of classes; each is a row's, and
-- comes first after those below it. The found count is the sum of f, which is 1 for each class that is found and 0 for each other: each
-- class counts once
pub record ClassesTell (call : Call) (c : Circuit) : Type 0 where
  pub same : (r s : ℕ) → r < length (rows_of c) → s < length (rows_of c)
      → (class_at call.after.classes r ≡ class_at call.after.classes s) ↔ OneClass (row_at c r) (row_at c s)
  pub low : (r : ℕ) → r < length (rows_of c) → 1 ≤ class_at call.after.classes r
  pub high : (r : ℕ) → r < length (rows_of c) → class_at call.after.classes r ≤ (counts_of call.answer).classes
  pub each : (n : ℕ) → 1 ≤ n → n ≤ (counts_of call.answer).classes
      → (r : ℕ) × (r < length (rows_of c)) × (class_at call.after.classes r ≡ n)
  pub at_its_first_row : (r n : ℕ) → r < length (rows_of c) → 1 ≤ n → n < class_at call.after.classes r
      → (s : ℕ) × (s < r) × (class_at call.after.classes s ≡ n)
  pub found : (f : ℕ → ℕ) × ((n : ℕ) → f n ≤ 1) × ((n : ℕ) → (f n ≡ 1) ↔ Found call c (suc n))
      × ((counts_of call.answer).found ≡ sum_to (counts_of call.answer).classes f)
  pub vectors : (counts_of call.answer).vectors ≡ length c.vectors
  pub faults : (counts_of call.answer).faults ≡ length (rows_of c)

abbrev pub ClassesCountOnce : Type 0
ClassesCountOnce = (call : Call) (c : Circuit) → GradedAs call c → ClassesTell call c

-- ---- a bridge named once more

-- the instance with a number, from 1
abbrev pub instance_of : Circuit → ℕ → Instance
instance_of c n = numbered c.instances n no_instance

-- the second circuit has one bridge field more, `again` in the list `number`, anywhere among the others
pub record OneBridgeMore (c d : Circuit) (again : Bridge) : Type 0 where
  pub inputs : c.inputs ≡ d.inputs
  pub types : c.types ≡ d.types
  pub instances : c.instances ≡ d.instances
  pub vectors : c.vectors ≡ d.vectors
  pub number : ℕ
  pub before : List Listed
  pub after : List Listed
  pub bridges : c.bridges ≡ before ++ after
  pub named_again : d.bridges ≡ before ++ (record { list = number; bridge = again } ∷ after)

-- and in each instance that chose its list the new bridge joins the two wires of a row that was there, of that instance or of any other
pub record NamedAgain (c d : Circuit) : Type 0 where
  pub again : Bridge
  pub more : OneBridgeMore c d again
  pub named : (n : ℕ) → 1 ≤ n → n ≤ length c.instances → (instance_of c n).choice ≡ list more.number
      → (r : ℕ) × (r < length (rows_of c)) × OneClass (row_with c.types n (instance_of c n) again) (row_at c r)

pub record CountsAgree (one other : Call) : Type 0 where
  pub classes : (counts_of one.answer).classes ≡ (counts_of other.answer).classes
  pub found : (counts_of one.answer).found ≡ (counts_of other.answer).found

abbrev pub NamingAgainAddsNothing : Type 0
NamingAgainAddsNothing = (one other : Call) (c d : Circuit) → GradedAs one c → GradedAs other d → NamedAgain c d → CountsAgree one other

-- so a bridge of a list that joins two nodes, named once more in that list from its other end
pub record NamedFromTheOtherEnd (c d : Circuit) : Type 0 where
  pub first : ℕ
  pub second : ℕ
  pub more : OneBridgeMore c d (nodes second first)
  pub is_named : Memᴰ (record { list = more.number; bridge = nodes first second }) c.bridges

abbrev pub OtherEndAddsNothing : Type 0
OtherEndAddsNothing =
    (one other : Call) (c d : Circuit) → GradedAs one c → GradedAs other d → NamedFromTheOtherEnd c d → CountsAgree one other
