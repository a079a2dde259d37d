-- The theorems on classes and on the promise that later crates rest on. Their proofs are in proofs/: WireLevels,
-- SameClass, ClassNumbering, RoundLaws and PromiseLaws.
use Rattle.std.specs.Prelude.{ℕ, ◌≤◌, ◌<◌, ◌≡◌, Bool, ◌↔◌, T, length, get_or}
use mathlib.Core.List.{List, [], Memᴰ}
use Rattle.switch.specs.Conduction.{Value}
use Rattle.switch.specs.Distances.{GreatestIs}
use Rattle.switch.specs.Promises.{four_rounds}
use Rattle.circuit.specs.Circuit.{Circuit}
use Rattle.circuit.specs.Reading.{accepted, reading_of}
use Rattle.circuit.specs.Records.{circuit_record}
use Rattle.circuit.specs.Laws.{CircuitGood}
use Rattle.grading.specs.Buffers.{Buffers}
use Rattle.grading.specs.Rows.{Row, rows_of, cell}
use Rattle.grading.specs.Wires.{wire_of, one_end, other_end, carried, leaks}
use Rattle.grading.specs.Classes.{same_class, largest, classes_by, classes_of}
use Rattle.grading.specs.Rounds.{type_at, links_at, DistanceIn, instance_rounds, rounds_of, PlanesAt}
use Rattle.grading.specs.Promise.{Answer, Promise}
use Rattle.grading.specs.CircuitPromise.{PromiseOfCircuit}

-- ---- any test for one class

-- a test that is an equivalence on those of which P holds
pub record Equivalence {A : Type 0} (P : A → Type 0) (same : A → A → Bool) : Type 0 where
  pub itself : (r : A) → P r → T (same r r)
  pub turned : (r s : A) → P r → P s → T (same r s) → T (same s r)
  pub through : (q r s : A) → P q → P r → P s → T (same q r) → T (same r s) → T (same q s)

-- each row has a number; two rows have equal numbers exactly when the test says that they are one class; the numbers are 1 to the number of
-- classes, each of them is a row's, and comes first after those below it. `none` stands past the last row
pub record NumbersTell {A : Type 0} (test : A → A → Bool) (rows : List A) (classes : List ℕ) : Type 0 where
  pub one_each : length classes ≡ length rows
  pub same : (r s : ℕ) (none : A) → r < length rows → s < length rows
      → (get_or classes r 0 ≡ get_or classes s 0) ↔ T (test (get_or rows r none) (get_or rows s none))
  pub low : (r : ℕ) → r < length rows → 1 ≤ get_or classes r 0
  pub high : (r : ℕ) → r < length rows → get_or classes r 0 ≤ largest classes
  pub each : (n : ℕ) → 1 ≤ n → n ≤ largest classes → (r : ℕ) × (r < length rows) × (get_or classes r 0 ≡ n)
  pub at_its_first_row : (r n : ℕ) → r < length rows → 1 ≤ n → n < get_or classes r 0 → (s : ℕ) × (s < r) × (get_or classes s 0 ≡ n)

-- the numbering tells the classes of every equivalence
abbrev pub NumberingTells : Type 1
NumberingTells =
    (A : Type 0) (P : A → Type 0) (same : A → A → Bool) → Equivalence P same
    → (rows : List A) → ((row : A) → Memᴰ row rows → P row) → NumbersTell same rows (classes_by same rows)

-- ---- a circuit's

-- a row of a circuit
abbrev pub RowOf : Circuit → Row → Type 0
RowOf c row = Memᴰ row (rows_of c)

-- on any rows, to be of one class is an equivalence
abbrev pub SameClassIsEquivalence : Type 1
SameClassIsEquivalence = (P : Row → Type 0) → Equivalence P same_class

-- a cell is a function of what the two wires carry, and the same function from either end
pub record CellsAreOfWires : Type 0 where
  pub cell_is : (c : Circuit) → CircuitGood c → (row : Row) → RowOf c row → (vector : List Value)
      → cell c vector row ≡ leaks (carried c vector (wire_of row one_end)) (carried c vector (wire_of row other_end))
  pub either_way : (a b : Value) → leaks a b ≡ leaks b a

-- so rows of one class have equal cells under every vector
abbrev pub ClassesHaveEqualMarks : Type 0
ClassesHaveEqualMarks =
    (c : Circuit) → CircuitGood c → (r s : Row) → RowOf c r → RowOf c s → T (same_class r s)
    → (vector : List Value) → cell c vector r ≡ cell c vector s

-- the class numbers of a circuit tell its classes
abbrev pub ClassNumbers : Circuit → Type 0
ClassNumbers c = NumbersTell same_class (rows_of c) (classes_of (rows_of c))

-- ---- 02, "How many rounds joining takes"

pub record RoundsTell : Type 0 where
  -- the rounds of a good circuit are its greatest distance
  pub greatest : (c : Circuit) → CircuitGood c → GreatestIs (DistanceIn c) (rounds_of c)
  -- joining handles 256 places together. Those past the last vector add nothing: no vector stands there, so that every label is X and
  -- nothing is on
  pub nothing_on : (c : Circuit) → CircuitGood c → (i v : ℕ) → i < length c.instances → length c.vectors ≤ v → links_at c i v ≡ []
  -- so the step's count, over planes that hold what the labels are at each of the 256 places, is the instance's
  pub step_counts : (c : Circuit) → CircuitGood c → (i : ℕ) → i < length c.instances → (ones zeros : List ℕ) → PlanesAt c i ones zeros
      → four_rounds (type_at c i) ones zeros ≡ instance_rounds c i

-- a circuit's promise is that of every file that is read as it
abbrev pub CircuitPromiseIsFiles : Type 0
CircuitPromiseIsFiles =
    (file : List ℕ) (c : Circuit) → reading_of file ≡ accepted c → (before after : Buffers) (answer : Answer)
    → PromiseOfCircuit (circuit_record c) before answer after → Promise file before answer after
