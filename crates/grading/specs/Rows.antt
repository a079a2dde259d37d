-- 01, "Faults, marks and classes": rows stand in instance order, those of one instance in the order of its list. A row is marked under a
-- vector when, with its bridge closed, a path runs from supply to ground in its instance: 01 gives the mark by the ends and has the
-- agreement proved, which is `ClosedPathIsEnds` of the crate `switch`.
use Rattle.std.specs.Prelude.{ℕ, suc, Bool, List, [], ◌∷◌, ◌++◌, map, length, get_or}
use Rattle.words.specs.Bits.{of_bool}
use Rattle.words.specs.Rows as marks
use Rattle.switch.specs.Conduction.{Value}
use Rattle.switch.specs.Modules.{ModuleType}
use Rattle.switch.specs.Bridges.{Bridge, nodes, Marked}
use Rattle.switch.specs.Deciding.{is_marked}
use Rattle.circuit.specs.Circuit.{Circuit, Instance, Listed, no_faults, no_type, type_of_instance, faults_of, join_lists}
use Rattle.grading.specs.Values.{label_values, outputs_of}

-- a row carries its instance, with its number from 1, and the instance's type
pub record Row : Type 0 where
  pub number : ℕ
  pub instance : Instance
  pub type : ModuleType
  pub bridge : Bridge

-- the row of a bridge of instance n, which is i
abbrev pub row_with : List ModuleType → ℕ → Instance → Bridge → Row
row_with types n i b = record { number = n; instance = i; type = type_of_instance types i; bridge = b }

unfoldable pub rows_of_instance : List ModuleType → List Listed → ℕ → Instance → List Row
rows_of_instance types bridges n i = map (row_with types n i) (faults_of types bridges i)

-- the rows of the instances from number n on
unfoldable pub rows_from : List ModuleType → List Listed → ℕ → List Instance → List Row
rows_from types bridges n [] = []
rows_from types bridges n (i ∷ is) = rows_of_instance types bridges n i ++ rows_from types bridges (suc n) is

unfoldable pub rows_of : Circuit → List Row
rows_of c = rows_from c.types c.bridges 1 c.instances

-- what stands past the last instance, and past the last row
abbrev pub no_instance : Instance
no_instance = record { type = 0; choice = no_faults; references = [] }

abbrev pub no_row : Row
no_row = record { number = 0; instance = no_instance; type = no_type; bridge = nodes 0 0 }

-- the values of a row's labels under a vector
unfoldable pub row_values : Circuit → List Value → Row → ℕ → Value
row_values c vector row = label_values vector (outputs_of c.types vector c.instances) row.instance

-- a cell of the matrix: its row's bridge is marked under its vector
unfoldable pub CellMarked : Circuit → List Value → Row → Type 0
CellMarked c vector row = Marked row.type (row_values c vector row) row.bridge

unfoldable pub cell : Circuit → List Value → Row → Bool
cell c vector row = is_marked row.type (row_values c vector row) row.bridge

-- the mark of a row under the vector at a place, from 0
unfoldable pub mark_of : Circuit → Row → ℕ → ℕ
mark_of c row v = of_bool (cell c (get_or c.vectors v []) row)

-- a row of the matrix: four words
unfoldable pub row_words : Circuit → Row → List ℕ
row_words c row = marks.row_of (length c.vectors) (mark_of c row)

unfoldable pub matrix_of : Circuit → List ℕ
matrix_of c = join_lists (map (row_words c) (rows_of c))
