-- What the code computes, as lists of words: signals' planes, an instance's words, mark words. The inputs' planes are in the crate
-- `grade_inputs`.
use Rattle.std.specs.Prelude.{ℕ, ◌+◌, ◌-◌, ◌*◌, ◌/◌, ◌%◌, ◌<◌, ◌≤◌, Bool, true, false, cond, List, [], eqb, ltb, length, get_or, take, ◌≡◌}
use Rattle.std.specs.Int.Bits.{bit_and, bit_or}
use Rattle.words.specs.Bits.{word, first_ones}
use Rattle.words.specs.Each.{four_each}
use Rattle.words.specs.Tables.{table, up_to}
use Rattle.words.specs.Written.{written}
use Rattle.switch.specs.Conduction.{Value, at_x}
use Rattle.switch.specs.Modules.{ModuleType}
use Rattle.switch.specs.Promises.{rails_of, planes_of}
use Rattle.switch.specs.Records.{TypeGiven, type_of}
use Rattle.switch.specs.declared.ModuleType.{ModuleType as TypeRecord}
use Rattle.switch.specs.declared.Planes.{Planes}
use Rattle.switch.specs.declared.Rails.{Rails}
use Rattle.circuit.specs.Circuit.{Circuit}
use Rattle.circuit.specs.Records.{unused_reference, number_told}
use Rattle.circuit.specs.declared.Reference.{Reference as ReferenceRecord}
use Rattle.circuit.specs.declared.Reference.TheVariants.{Input, Earlier}
use Rattle.grading.specs.Codes.{kind_in, first_in, second_in, CodesFit}
use Rattle.grading.specs.Values.{outputs_of}
use Rattle.grade_inputs.specs.declared.Signals.{Signals}
use Rattle.grade_marks.specs.declared.labels.LabelPlanes.{LabelPlanes}

-- ---- signals: primary inputs at 0 to 63, the outputs of instances from 64 on

unfoldable pub vector_at : Circuit → ℕ → List Value
vector_at c v = get_or c.vectors v []

-- the outputs of the first n instances under the vector at a place
unfoldable pub outputs_at : Circuit → ℕ → ℕ → List Value
outputs_at c n v = outputs_of c.types (vector_at c v) (take n c.instances)

unfoldable pub signal_at : Circuit → ℕ → ℕ → ℕ → Value
signal_at c n v s = cond (ltb s 64) (get_or (vector_at c v) s at_x) (get_or (outputs_at c n v) (s - 64) at_x)

-- word j mod 4 of signal j / 4, where `plane` says which values have a 1
unfoldable pub signal_word : (Value → ℕ) → Circuit → ℕ → ℕ → ℕ
signal_word plane c n j = word (λ (v : ℕ). plane (signal_at c n (64 * (j % 4) + v) (j / 4)))

unfoldable pub signal_words : (Value → ℕ) → Circuit → ℕ → List ℕ
signal_words plane c n = table 768 (signal_word plane c n)

-- the place of a reference's signal
unfoldable pub place_of_signal : Bool → ℕ → ℕ
place_of_signal true number = 63 + number
place_of_signal false number = number - 1

unfoldable pub signal_of : ReferenceRecord → ℕ
signal_of (Input n) = place_of_signal false n
signal_of (Earlier i) = place_of_signal true i

-- references whose signals are there
pub record ReferencesFit (references : List ReferenceRecord) : Type 0 where
  pub few : length references ≤ 12
  pub some : (l : ℕ) → l < length references → 1 ≤ number_told (get_or references l unused_reference)
  pub most : (l : ℕ) → l < length references → number_told (get_or references l unused_reference) ≤ 64 + 64

-- word w of each label, in a plane
unfoldable pub label_words : List ReferenceRecord → List ℕ → ℕ → List ℕ
label_words references signals w =
    table 12 (up_to (length references) (λ (l : ℕ). get_or signals (4 * signal_of (get_or references l unused_reference) + w) 0))

unfoldable pub label_plane : List ReferenceRecord → List ℕ → List ℕ
label_plane references signals = four_each 12 (label_words references signals)

abbrev pub label_planes : List ReferenceRecord → Signals → LabelPlanes
label_planes references signals = record { ones = label_plane references signals.ones; zeros = label_plane references signals.zeros }

-- ---- an instance's words, four for each node and each label

-- what the rows of an instance are read from: each node's words for each rail, with the rounds of joining, and each label's planes
pub record InstanceWords : Type 0 where
  pub rails : Rails
  pub labels : LabelPlanes

abbrev pub instance_words : ModuleType → List ReferenceRecord → Signals → InstanceWords
instance_words t references signals =
    let labels = label_planes (take t.labels references) signals in record { rails = rails_of t labels.ones labels.zeros; labels = labels }

-- the output's planes under vectors 64 w to 64 w + 63
unfoldable pub output_planes : Rails → ℕ → ℕ → Planes
output_planes rails node w = planes_of (get_or rails.supply (4 * node + w) 0) (get_or rails.ground (4 * node + w) 0)

-- signals with an output's planes put at a place behind the primary inputs, four words in each plane
abbrev pub with_output : Signals → ℕ → Rails → ℕ → Signals
with_output signals place rails node = record {
  ones = written signals.ones (4 * (64 + place)) (table 4 (λ (w : ℕ). (output_planes rails node w).ones));
  zeros = written signals.zeros (4 * (64 + place)) (table 4 (λ (w : ℕ). (output_planes rails node w).zeros));
}

-- ---- mark words

abbrev pub pair_word : Rails → ℕ → ℕ → ℕ
pair_word rails a b =
    bit_or (bit_and (get_or rails.supply a 0) (get_or rails.ground b 0)) (bit_and (get_or rails.ground a 0) (get_or rails.supply b 0))

abbrev pub input_mark_word : Rails → LabelPlanes → ℕ → ℕ → ℕ
input_mark_word rails labels m l =
    bit_or (bit_and (get_or labels.ones l 0) (get_or rails.ground m 0)) (bit_and (get_or labels.zeros l 0) (get_or rails.supply m 0))

-- word w of a row, from its code
unfoldable pub mark_word : Rails → LabelPlanes → ℕ → ℕ → ℕ
mark_word rails labels row w =
    cond (eqb (kind_in row) 0)
    (pair_word rails (4 * first_in row + w) (4 * second_in row + w))
    (input_mark_word rails labels (4 * first_in row + w) (4 * second_in row + w))

-- the places of the vectors in word w
abbrev pub vectors_in : ℕ → ℕ → ℕ
vectors_in vectors w = first_ones (vectors - 64 * w)

-- the four words of a row, under masks
unfoldable pub row_under_masks : Rails → LabelPlanes → List ℕ → ℕ → List ℕ
row_under_masks rails labels masks row = table 4 (λ (w : ℕ). bit_and (mark_word rails labels row w) (get_or masks w 0))

-- word i of an instance's rows
unfoldable pub rows_word : List ℕ → Rails → LabelPlanes → ℕ → ℕ → ℕ
rows_word rows rails labels vectors i = bit_and (mark_word rails labels (get_or rows (i / 4) 0) (i % 4)) (vectors_in vectors (i % 4))

-- the words of an instance's rows
unfoldable pub rows_words : List ℕ → Rails → LabelPlanes → ℕ → List ℕ
rows_words rows rails labels vectors = table (4 * length rows) (rows_word rows rails labels vectors)

-- what marking an instance asks, with t its type's record: its type and references are in range, the matrix has room for its rows, and
-- there is room for its output
pub record InstanceGiven (t : TypeRecord) (references : List ReferenceRecord) (place : ℕ) (rows matrix : List ℕ) : Type 0 where
  pub sound : TypeGiven t
  pub tied : ReferencesFit (take t.labels references)
  pub placed : place < 128
  pub room : 4 * length rows ≤ length matrix
  pub codes : CodesFit rows 0 (length rows)

-- an instance marked, with t its type's record: its rows are put at the front of the matrix, its output's planes behind the signals, and
-- its rounds
pub record InstanceMarked (t : TypeRecord) (references : List ReferenceRecord) (place vectors : ℕ) (rows : List ℕ)
    (signals signals' : Signals) (matrix matrix' : List ℕ) (rounds : ℕ) : Type 0 where
  pub rows_are :
      let read = instance_words (type_of t) references signals in
      matrix' ≡ written matrix 0 (rows_words rows read.rails read.labels vectors)
  pub signals_are : signals' ≡ with_output signals place (instance_words (type_of t) references signals).rails t.output
  pub rounds_are : rounds ≡ (instance_words (type_of t) references signals).rails.rounds
