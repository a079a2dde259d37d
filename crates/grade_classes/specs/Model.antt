-- What the code computes: keys, class numbers by key, and the count of the found ones.
use Rattle.std.specs.Prelude.{ℕ, zero, suc, ◌+◌, ◌-◌, ◌*◌, ◌%◌, min, max, cond, List, eqb, ltb, length, get_or, ◌≡◌}
use Rattle.std.specs.Int.Bits.{bit_or}
use Rattle.words.specs.Tables.{table}
use Rattle.words.specs.Written.{written}
use Rattle.circuit.specs.Records.{unused_reference}
use Rattle.circuit.specs.declared.Reference.{Reference as ReferenceRecord}
use Rattle.circuit.specs.declared.Reference.TheVariants.{Input, Earlier}
use Rattle.grading.specs.Wires.{Wire, ground_wire, supply_wire, input_wire, output_wire, inner_wire, node_wire}
use Rattle.grading.specs.Classes.{largest, classes_by}
use Rattle.grading.specs.Codes.{kind_in, first_in, second_in}
use Rattle.grade_classes.specs.declared.Classed.{Classed}

-- ---- wires as numbers, and class keys

-- each wire of a circuit has its own: rails 0 and 1, inputs from 3, outputs from 68, inner nodes from 290, 32 numbers for each instance
unfoldable pub wire_number : Wire → ℕ
wire_number ground_wire = 0
wire_number supply_wire = 1
wire_number (input_wire n) = 2 + n
wire_number (output_wire n) = 67 + n
wire_number (inner_wire n m) = 256 + (32 * n + m)

-- that of a reference's wire
unfoldable pub reference_number : ReferenceRecord → ℕ
reference_number (Input n) = wire_number (input_wire n)
reference_number (Earlier i) = wire_number (output_wire i)

unfoldable pub label_numbers : List ReferenceRecord → List ℕ
label_numbers references = table 12 (λ (l : ℕ). reference_number (get_or references l unused_reference))

-- two numbers, the lower first
unfoldable pub pair_key : ℕ → ℕ → ℕ
pair_key a b = 8192 * min a b + max a b

-- a row's key, by its instance's number, its type's output and the wires of the instance's labels
unfoldable pub key_of : ℕ → ℕ → List ℕ → ℕ → ℕ
key_of n output labels code =
    let node : ℕ → ℕ = λ m. wire_number (node_wire n output m) in
    pair_key (node (first_in code)) (cond (eqb (kind_in code) 0) (node (second_in code)) (get_or labels (second_in code) 0))

unfoldable pub keys_of : List ℕ → ℕ → ℕ → List ℕ → ℕ → ℕ → List ℕ
keys_of codes n output labels from to = table (to - from) (λ (i : ℕ). key_of n output labels (get_or codes (from + i) 0))

-- where the search for a key begins
abbrev pub bucket_of : ℕ → ℕ
bucket_of key = key % 251

-- ---- found classes: of those that begin in some rows, how many first rows have a mark, by the rows' four words

unfoldable pub row_marked : List ℕ → ℕ → ℕ
row_marked words r =
    bit_or (bit_or (bit_or (get_or words (4 * r) 0) (get_or words (4 * r + 1) 0)) (get_or words (4 * r + 2) 0)) (get_or words (4 * r + 3) 0)

unfoldable pub found_from : List ℕ → List ℕ → ℕ → ℕ → ℕ → ℕ
found_from matrix classes from zero count = 0
found_from matrix classes from (suc left) count =
    let class = get_or classes from 0 in
    let later = found_from matrix classes (suc from) left (max count class) in
    cond (ltb count class) (cond (eqb (row_marked matrix from) 0) later (suc later)) later

-- ---- rows classed, by their keys: their classes at the front of the buffer, the number of classes, and how many are found

pub record RowsClassed (keys matrix classes : List ℕ) (r : Classed) (classes' : List ℕ) : Type 0 where
  pub classes_are : classes' ≡ written classes 0 (classes_by eqb keys)
  pub count_is : r.count ≡ largest (classes_by eqb keys)
  pub found_is : r.found ≡ found_from matrix classes' 0 (length keys) 0
