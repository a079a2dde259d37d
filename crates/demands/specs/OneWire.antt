-- 02, "One wire, one short", on files: what a wire is, said once more by what a circuit ties together; that a wire carries one level, and
-- a mark is a symmetric function of what its two wires carry; so rows of one class are equal; and that the counts are of the shorts,
-- however they are listed. The proofs are in proofs/WireTies, WiresBefore, SharedShorts, OneWireProof, ShortsCounted and WireExamples.
use Rattle.std.specs.Prelude.{ℕ, ◌≤◌, ◌<◌, ◌≡◌, ◌⊎◌, ◌↔◌, List, length, get_or}
use Rattle.switch.specs.Conduction.{Value, at0, at1, ground, supply}
use Rattle.switch.specs.Modules.{links_of, LevelIs}
use Rattle.switch.specs.Bridges.{Bridge, nodes, input}
use Rattle.circuit.specs.Circuit.{Circuit, Instance, Reference, primary, output_of, type_of_instance}
use Rattle.grading.specs.Rows.{Row, rows_of, row_values, CellMarked}
use Rattle.grading.specs.Wires.{Wire, ground_wire, supply_wire, End, one_end, other_end, wire_of, carried}
use Rattle.grading.specs.Promise.{counts_of}
use Rattle.demands.specs.Calls.{Call, Accepts, GradedAs, cell_at, class_at}
use Rattle.demands.specs.Two.{row_at, MatrixCell, row_of_cell, vector_of_cell, mark_in, instance_of, OneClass, NamedAgain, CountsAgree}
use Rattle.demands.specs.Files.{at_driver, at_both, at_input}

-- ---- wires, by ties

-- a point of a circuit: a node, or a label, of the instance with a number
pub data Point : Type 0 where
  node : ℕ → ℕ → Point
  label : ℕ → ℕ → Point

-- what a label refers to. Where there is no such label, input 0 stands, which no circuit has
abbrev pub reference_at : Circuit → ℕ → ℕ → Reference
reference_at c n l = get_or (instance_of c n).references l (primary 0)

abbrev pub output_node : Circuit → ℕ → ℕ
output_node c n = (type_of_instance c.types (instance_of c n)).output

-- points are tied when they are one piece of metal: ground runs to node 0 of every instance, supply to node 1, a primary input to every
-- label that refers to it, the output of an instance to every label that refers to that instance
pub data Tied (c : Circuit) : Point → Point → Type 0 where
  grounds : (n k : ℕ) → Tied c (node n ground) (node k ground)
  supplies : (n k : ℕ) → Tied c (node n supply) (node k supply)
  inputs : (n l k m p : ℕ) → reference_at c n l ≡ primary p → reference_at c k m ≡ primary p → Tied c (label n l) (label k m)
  outputs : (n l k : ℕ) → reference_at c n l ≡ output_of k → Tied c (node k (output_node c k)) (label n l)
  itself : (p : Point) → Tied c p p
  turned : (p q : Point) → Tied c p q → Tied c q p
  through : (p q r : Point) → Tied c p q → Tied c q r → Tied c p r

-- the point at an end of a row's bridge
unfoldable pub point_at : ℕ → Bridge → End → Point
point_at n (nodes a b) one_end = node n a
point_at n (nodes a b) other_end = node n b
point_at n (input m l) one_end = node n m
point_at n (input m l) other_end = label n l

abbrev pub point_of : Row → End → Point
point_of row end = point_at row.number row.bridge end

-- two ends are one wire exactly when the circuit ties them
abbrev pub WiresAreTies : Type 0
WiresAreTies =
    (file : List ℕ) (c : Circuit) → Accepts file c → (r s : ℕ) → r < length (rows_of c) → s < length (rows_of c) → (d e : End)
    → (wire_of (row_at c r) d ≡ wire_of (row_at c s) e) ↔ Tied c (point_of (row_at c r) d) (point_of (row_at c s) e)

-- so two rows have one class number exactly when the circuit ties the ends of one to those of the other, either way round
abbrev pub ClassesAreTies : Type 0
ClassesAreTies =
    (call : Call) (c : Circuit) → GradedAs call c → (r s : ℕ) → r < length (rows_of c) → s < length (rows_of c)
    → let tied : End → End → Type 0 = λ d e. Tied c (point_of (row_at c r) d) (point_of (row_at c s) e) in
    (class_at call.after.classes r ≡ class_at call.after.classes s)
    ↔ ((tied one_end one_end × tied other_end other_end) ⊎ (tied one_end other_end × tied other_end one_end))

-- the ends of a bridge are two wires, never one
abbrev pub EndsAreTwoWires : Type 0
EndsAreTwoWires =
    (file : List ℕ) (c : Circuit) → Accepts file c → (r : ℕ) → r < length (rows_of c)
    → wire_of (row_at c r) one_end ≡ wire_of (row_at c r) other_end → ⊥

-- ---- what 01 had

-- 01, which 02 corrects: the same instance and kind, with the same nodes in either order for kind 0, or the same node and labels with equal
-- references for kind 1
unfoldable pub EqualBridges : Instance → Bridge → Bridge → Type 0
EqualBridges i (nodes a b) (nodes c d) = ((a ≡ c) × (b ≡ d)) ⊎ ((a ≡ d) × (b ≡ c))
EqualBridges i (nodes a b) (input m l) = ⊥
EqualBridges i (input m l) (nodes a b) = ⊥
EqualBridges i (input m l) (input n k) = (m ≡ n) × ((none : Reference) → get_or i.references l none ≡ get_or i.references k none)

-- in one instance rows are one class exactly when 01 had them so. Rows of two instances, which 01 kept apart, may be one class now: so no
-- class is split, and a file with one instance has the classes that it had
abbrev pub InOneInstanceAsBefore : Type 0
InOneInstanceAsBefore =
    (file : List ℕ) (c : Circuit) → Accepts file c → (r s : ℕ) → r < length (rows_of c) → s < length (rows_of c)
    → (row_at c r).number ≡ (row_at c s).number
    → OneClass (row_at c r) (row_at c s) ↔ EqualBridges (row_at c r).instance (row_at c r).bridge (row_at c s).bridge

-- a wire that is a rail
abbrev pub IsRail : Wire → Type 0
IsRail w = (w ≡ ground_wire) ⊎ (w ≡ supply_wire)

-- a short that two instances list has a rail at one of its ends
abbrev pub SharedShortsAreAtARail : Type 0
SharedShortsAreAtARail =
    (file : List ℕ) (c : Circuit) → Accepts file c → (r s : ℕ) → r < length (rows_of c) → s < length (rows_of c)
    → ((row_at c r).number ≡ (row_at c s).number → ⊥) → OneClass (row_at c r) (row_at c s)
    → IsRail (wire_of (row_at c r) one_end) ⊎ IsRail (wire_of (row_at c r) other_end)

-- ---- levels

-- an end of a row's bridge is at this level under a vector: a node by paths in the row's own instance, a label by its value there
unfoldable pub EndIs : Circuit → List Value → Row → Bridge → End → Value → Type 0
EndIs c vector row (nodes a b) one_end level = LevelIs (links_of row.type (row_values c vector row)) a level
EndIs c vector row (nodes a b) other_end level = LevelIs (links_of row.type (row_values c vector row)) b level
EndIs c vector row (input m l) one_end level = LevelIs (links_of row.type (row_values c vector row)) m level
EndIs c vector row (input m l) other_end level = row_values c vector row l ≡ level

-- the level of a wire is that of each end on it, whichever instance the end is of
abbrev pub OneWireOneLevel : Type 0
OneWireOneLevel =
    (file : List ℕ) (c : Circuit) → Accepts file c → (r : ℕ) → r < length (rows_of c) → (vector : List Value) (end : End) (level : Value)
    → EndIs c vector (row_at c r) (row_at c r).bridge end level ↔ (carried c vector (wire_of (row_at c r) end) ≡ level)

-- a cell is marked exactly when one of its two wires carries 1 and the other 0
abbrev pub MarksAreOfWires : Type 0
MarksAreOfWires =
    (call : Call) (c : Circuit) → GradedAs call c → (cell : MatrixCell c)
    → let level : End → Value = λ end. carried c (vector_of_cell cell) (wire_of (row_of_cell cell) end) in
    (mark_in call cell ≡ 1) ↔ (((level one_end ≡ at1) × (level other_end ≡ at0)) ⊎ ((level one_end ≡ at0) × (level other_end ≡ at1)))

-- ---- rows of one class

-- what joins the same two wires is marked under the same vectors, whatever vectors there are
abbrev pub OneShortOneMark : Type 0
OneShortOneMark =
    (file : List ℕ) (c : Circuit) → Accepts file c → (r s : ℕ) → r < length (rows_of c) → s < length (rows_of c)
    → OneClass (row_at c r) (row_at c s) → (vector : List Value) → CellMarked c vector (row_at c r) ↔ CellMarked c vector (row_at c s)

-- so rows with one class number are equal, bit for bit
abbrev pub RowsOfOneClassAreEqual : Type 0
RowsOfOneClassAreEqual =
    (call : Call) (c : Circuit) → GradedAs call c → (r s : ℕ) → r < length (rows_of c) → s < length (rows_of c)
    → class_at call.after.classes r ≡ class_at call.after.classes s
    → (v : ℕ) → v < 256 → cell_at call.after.matrix r v ≡ cell_at call.after.matrix s v

-- ---- the shorts listed

-- alike but for the fault lists: the instances have the same types and references, whatever they chose
pub record AlikeButLists (c d : Circuit) : Type 0 where
  pub inputs : c.inputs ≡ d.inputs
  pub types : c.types ≡ d.types
  pub vectors : c.vectors ≡ d.vectors
  pub as_many : length c.instances ≡ length d.instances
  pub modules : (n : ℕ) → (instance_of c n).type ≡ (instance_of d n).type
  pub references : (n : ℕ) → (instance_of c n).references ≡ (instance_of d n).references

-- each short that the first lists the second lists too, perhaps in another instance, from its other end, or as a bridge of the other kind
abbrev pub ShortsAmong : Circuit → Circuit → Type 0
ShortsAmong c d = (r : ℕ) → r < length (rows_of c) → (s : ℕ) × (s < length (rows_of d)) × OneClass (row_at c r) (row_at d s)

-- then the second counts no fewer classes, and finds no fewer
pub record CountsGrow (one other : Call) : Type 0 where
  pub classes : (counts_of one.answer).classes ≤ (counts_of other.answer).classes
  pub found : (counts_of one.answer).found ≤ (counts_of other.answer).found

abbrev pub MoreShortsCountNoFewer : Type 0
MoreShortsCountNoFewer =
    (one other : Call) (c d : Circuit) → GradedAs one c → GradedAs other d → AlikeButLists c d → ShortsAmong c d → CountsGrow one other

-- so of the same shorts, however they are listed, the counts are the same
abbrev pub SameShortsCountAlike : Type 0
SameShortsCountAlike =
    (one other : Call) (c d : Circuit) → GradedAs one c → GradedAs other d → AlikeButLists c d → ShortsAmong c d → ShortsAmong d c
    → CountsAgree one other

-- ---- an example: files that meet what these statements ask

-- a file, a call that graded it, and what it is read as
pub record GradedFile (file : List ℕ) : Type 0 where
  pub call : Call
  pub circuit : Circuit
  pub is : call.file ≡ file
  pub graded : GradedAs call circuit

-- `NamingAgainAddsNothing` with a bridge that another instance lists, and `SameShortsCountAlike` where each short has changed its instance
pub record ShortsNamedElsewhere : Type 0 where
  pub driver : GradedFile at_driver
  pub both : GradedFile at_both
  pub fed : GradedFile at_input
  pub named_again : NamedAgain driver.circuit both.circuit
  pub alike : AlikeButLists driver.circuit fed.circuit
  pub there : ShortsAmong driver.circuit fed.circuit
  pub back : ShortsAmong fed.circuit driver.circuit
