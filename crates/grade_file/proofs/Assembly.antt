-- Grading a circuit instance by instance: what stands in signals, matrix, codes and rounds after the first instances (`Turned`), that one
-- turn of the loop goes from one instance to the next, given what each call answers, that after the last the circuit's rows are marked, and
-- that with those classed it is graded. Assumes nothing.
use Prim.Native.Nat.{ℕ, suc, ◌+◌, ◌-◌, ◌*◌, ◌/◌, ◌<◌, ◌≤◌, max}
use mathlib.Core.Path.{◌≡◌, refl, sym, ap, ap₂, ◌∙◌}
use mathlib.Core.List.{List, ◌++◌, map, map-append}
use native.Mathlib.Nat.{zero-add}
use native.Mathlib.Numerals.{add-one}
use native.Mathlib.Omega.{arith}
use borrow.Rule.Slice.PartMut.{put_mid}
use lib.Dec.{T, eqb}
use lib.ListN.{length, get_or, take, length-append, length-map}
use lib.Seq.{get_or-take, length-take-le, take-append-le, take-take}
use Rattle.std.specs.List.{between}
use Rattle.std.proofs.lemmas.List.Edits.{length-between, get_or-between}
use Rattle.words.specs.Bits.{greatest_to}
use Rattle.words.specs.Written.{written}
use Rattle.words.proofs.Greatest.{greatest-more}
use Rattle.words.proofs.Tables.{length-table}
use Rattle.words.proofs.WrittenLaws.{written_nothing, length_written, written_written}
use Rattle.switch.specs.Modules.{ModuleType}
use Rattle.switch.specs.Bridges.{Bridge, nodes}
use Rattle.switch.specs.Records.{TypeGiven, type_of}
use Rattle.switch.specs.declared.ModuleType.{ModuleType as TypeRecord}
use Rattle.switch.proofs.Deciding.{all_of_lem}
use Rattle.circuit.specs.Circuit.{Circuit, Instance, Reference, primary, output_of, type_of_instance, join_lists}
use Rattle.circuit.specs.Numbers.{reference_good}
use Rattle.circuit.specs.Records.{type_record, instance_record, reference_record, unused_reference, number_told, padded, circuit_record}
use Rattle.circuit.specs.Laws.{TypeSound, CircuitGood}
use Rattle.circuit.specs.declared.Circuit.{Circuit as CircuitRecord}
use Rattle.circuit.specs.declared.Vector.{Vector as VectorRecord}
use Rattle.circuit.specs.declared.Instance.{Instance as InstanceRecord}
use Rattle.switch.proofs.Channels.{in_between}
use Rattle.circuit.proofs.TypeLaws.{type_back, type_given}
use Rattle.grading.specs.Given.{CircuitGiven}
use Rattle.grading.specs.Rows.{Row, no_instance, rows_of_instance, rows_from, rows_of, row_words, matrix_of}
use Rattle.grading.specs.Classes.{largest, classes_by, classes_of, found_count}
use Rattle.grading.specs.Rounds.{instance_rounds, rounds_of}
use Rattle.grading.specs.Grading.{over, counts_of_circuit}
use Rattle.grading.specs.Codes.{code_of, CodesFit}
use Rattle.grading.proofs.ValueLaws.{InstanceAt, good_at, type_at, type-ranges}
use Rattle.grading.proofs.RecordReads.{bridges_few, references_of, reference_at_lem, instance_is, type_read_lem}
use Rattle.grading.proofs.RowLaws.{rows_before, grown as rows_grown, rows_all, length_rows, rows_grow}
use Rattle.grading.proofs.RowLaws.{rows_few, rows_within, few_rows, faults_at}
use Rattle.grading.proofs.FaultRanges.{faults-fit}
use Rattle.grading.proofs.MatrixLaws.{length_matrix, matrix_append}
use Rattle.grade_rows.specs.Model.{instance_codes, RowsListed}
use Rattle.grade_rows.proofs.InstanceCodes.{codes_long as length-codes, listed_to, listed_long, listed_at, listed_fit}
use Rattle.grade_marks.specs.Model.{ReferencesFit, InstanceWords, instance_words, with_output, rows_words, InstanceGiven, InstanceMarked}
use Rattle.grade_marks.proofs.Parts.{part_is, written_over}
use Rattle.grade_inputs.specs.declared.Signals.{Signals}
use Rattle.grade_inputs.specs.Inputs.{ones_of, zeros_of, input_words}
use Rattle.grade_marks.proofs.SignalMeaning.{signals_at, words_of, references_long, signals_start, signals_more}
use Rattle.grade_marks.proofs.RowMeaning.{rows_words_lem}
use Rattle.grade_marks.proofs.RoundMeaning.{rounds_meant}
use Rattle.grade_classes.specs.Model.{label_numbers, keys_of, found_from, RowsClassed}
use Rattle.grade_classes.specs.declared.Classed.{Classed}
use Rattle.grade_classes.proofs.ClassLaws.{keyed_long, keyed_take}
use Rattle.grade_classes.proofs.KeyMeaning.{row_key}
use Rattle.grade_classes.proofs.ClassMeaning.{classes-by-key, keys_are}
use Rattle.grade_classes.proofs.FoundMeaning.{found_all, words_are, numbers_are}
use Rattle.grade_file.specs.Model.{RowsMarked, Graded}

-- ---- after the first instances

-- what the loop changes: signals, the matrix, codes with keys in the place of those that are marked, the most rounds so far, and where the
-- next instance and its rows begin
pub record State : Type 0 where
  pub signals : Signals
  pub matrix : List ℕ
  pub codes : List ℕ
  pub from : ℕ
  pub rounds : ℕ
  pub place : ℕ

abbrev matrix_to : Circuit → ℕ → List ℕ
matrix_to c i = join_lists (map (row_words c) (rows_before c i))

pub record Turned (c : Circuit) (matrix₀ : List ℕ) (s : State) : Type 0 where
  pub inside : s.place ≤ length c.instances
  pub signals_are : s.signals ≡ signals_at c s.place
  pub from_is : s.from ≡ length (rows_before c s.place)
  pub matrix_is : s.matrix ≡ written matrix₀ 0 (join_lists (map (row_words c) (rows_before c s.place)))
  pub codes_long : length s.codes ≡ 2048
  pub keys_are : take s.from s.codes ≡ map row_key (rows_before c s.place)
  pub rounds_are : s.rounds ≡ greatest_to s.place (instance_rounds c)

-- a list over the start of a buffer
over-is : (text buffer : List ℕ) → written buffer 0 text ≡ over text buffer
unfolding written over
over-is text buffer = rw (zero-add (length text))

-- what stands before a text is as it was
take-kept : (buffer : List ℕ) (at : ℕ) (text : List ℕ) → at ≤ length buffer → take at (written buffer at text) ≡ take at buffer
unfolding written
take-kept buffer at text h =
    let front : length (take at buffer) ≡ at = length-take-le at buffer h in
    take-append-le at (take at buffer ++ text) _ (omega (arith, front, length-append (take at buffer) text))
    ∙ take-append-le at (take at buffer) text (omega (arith, front))
    ∙ take-take at at buffer (omega arith)

abbrev signals_with : List ℕ → List ℕ → Signals
signals_with ones zeros = record { ones = ones; zeros = zeros }

module _ (c : Circuit) (m : CircuitRecord) (is : m ≡ circuit_record c) where
  pub vectors_are : m.vector_count ≡ length c.vectors
  unfolding circuit_record
  vectors_are = ap (λ (x : CircuitRecord). x.vector_count) is

  pub instances_are : m.instance_count ≡ length c.instances
  unfolding circuit_record
  instances_are = ap (λ (x : CircuitRecord). x.instance_count) is

  -- the faults are the rows
  pub faults_are : m.faults ≡ length (rows_of c)
  unfolding circuit_record rows_of
  faults_are = ap (λ (x : CircuitRecord). x.faults) is ∙ sym (length_rows c.types c.bridges 1 c.instances)

  pub turned_none : (matrix codes : List ℕ) (signals : Signals) → length codes ≡ 2048
      → signals.ones ≡ input_words (ones_of m.vectors) ((m.vector_count + 63) / 64)
      → signals.zeros ≡ input_words (zeros_of m.vectors) ((m.vector_count + 63) / 64)
      → Turned c matrix record { signals = signals; matrix = matrix; codes = codes; from = 0; rounds = 0; place = 0 }
  unfolding circuit_record join_lists rows_from greatest_to
  turned_none matrix codes signals long e g = record {
    inside = omega arith;
    signals_are =
        let inputs : List VectorRecord → ℕ → Signals
        = λ vectors n. signals_with (input_words (ones_of vectors) n) (input_words (zeros_of vectors) n) in
        let start = signals_start c in
        ap₂ signals_with e g
        ∙ ap (λ (x : CircuitRecord). inputs x.vectors ((x.vector_count + 63) / 64)) is
        ∙ ap₂ signals_with start.0 start.1;
    from_is = refl;
    matrix_is = sym (written_nothing matrix 0);
    codes_long = long;
    keys_are = refl;
    rounds_are = refl;
  }

-- the counts of a circuit are within the places for them
module _ (m : CircuitRecord) (told : CircuitGiven m) where
  pub bridges_fit : m.bridge_count ≤ 256
  bridges_fit = bridges_few told.circuit told.good m told.is

  pub instances_fit : m.instance_count ≤ 128
  instances_fit = omega (arith, instances_are told.circuit m told.is, told.good.few_instances)

  pub bridges_long : length m.bridges ≡ 256
  unfolding circuit_record padded
  bridges_long = ap (λ (x : CircuitRecord). length x.bridges) told.is ∙ length-table 256 _

  pub instances_long : length m.instances ≡ 128
  unfolding circuit_record padded
  instances_long = ap (λ (x : CircuitRecord). length x.instances) told.is ∙ length-table 128 _

  -- those in use
  pub bridges_used : length (take m.bridge_count m.bridges) ≡ m.bridge_count
  bridges_used = length-take-le m.bridge_count m.bridges (omega (arith, bridges_fit, bridges_long))

  pub instances_used : length (take m.instance_count m.instances) ≡ m.instance_count
  instances_used = length-take-le m.instance_count m.instances (omega (arith, instances_fit, instances_long))

  pub vectors_fit : m.vector_count ≤ 256
  vectors_fit = omega (arith, vectors_are told.circuit m told.is, told.good.few_vectors)

-- ---- at any turn

module _ (m : CircuitRecord) (told : CircuitGiven m) (matrix₀ : List ℕ) (room : 4 * m.faults ≤ length matrix₀) (s : State)
    (so_far : Turned told.circuit matrix₀ s) where
  abbrev c : Circuit
  c = told.circuit

  abbrev rows : List Row
  rows = rows_before c s.place

  -- the matrix is as long as it was, and has the rows so far
  pub matrix_long : length s.matrix ≡ length matrix₀
  matrix_long =
      ap length so_far.matrix_is
      ∙ length_written matrix₀ 0 (matrix_to c s.place)
      (omega (arith, length_matrix c rows, rows_within c s.place, room, faults_are c m told.is))

  -- after the last, the circuit's rows are marked
  pub turned_end : m.instance_count ≤ s.place → RowsMarked c matrix₀ s.matrix s.codes s.rounds
  unfolding matrix_of rounds_of
  turned_end past =
      record {
        matrix_is = matrix_is ∙ over-is (matrix_of c) matrix₀;
        codes_long = so_far.codes_long;
        keys_are = ap (λ (n : ℕ). take n s.codes) (sym (so_far.from_is ∙ ap length all)) ∙ so_far.keys_are ∙ ap (map row_key) all;
        rounds_are = so_far.rounds_are ∙ ap (λ (n : ℕ). greatest_to n (instance_rounds c)) last;
      }
    where
      last : s.place ≡ length c.instances
      last = omega (arith, so_far.inside, instances_are c m told.is)

      all : rows ≡ rows_of c
      all = rows_all c s.place (omega (arith, last))

      matrix_is : s.matrix ≡ written matrix₀ 0 (join_lists (map (row_words c) (rows_of c)))
      matrix_is = so_far.matrix_is ∙ ap (λ (l : List Row). written matrix₀ 0 (join_lists (map (row_words c) l))) all

-- ---- after the last, with the rows marked

module _ (m : CircuitRecord) (told : CircuitGiven m) (matrix₀ matrix' codes' : List ℕ) (rounds : ℕ)
    (marked : RowsMarked told.circuit matrix₀ matrix' codes' rounds) where
  abbrev whole : Circuit
  whole = told.circuit

  pub faults_few : m.faults ≤ 2048
  faults_few = omega (arith, faults_are whole m told.is, few_rows whole told.good)

  -- the keys of its rows are the codes in use
  pub keys_used : length (take m.faults codes') ≡ m.faults
  keys_used = length-take-le m.faults codes' (omega (arith, faults_few, marked.codes_long))

  matrix_here : matrix' ≡ written matrix₀ 0 (matrix_of whole)
  matrix_here = marked.matrix_is ∙ sym (over-is (matrix_of whole) matrix₀)

  -- the matrix is as long as it was
  pub marked_long : 4 * m.faults ≤ length matrix₀ → length matrix' ≡ length matrix₀
  unfolding matrix_of
  marked_long room =
      ap length matrix_here
      ∙ length_written matrix₀ 0 (matrix_of whole) (omega (arith, length_matrix whole (rows_of whole), room, faults_are whole m told.is))

  -- with the rows classed
  pub graded : (r : Classed) (classes₀ classes' : List ℕ) → RowsClassed (take m.faults codes') matrix' classes₀ r classes'
      → Graded whole record { vectors = m.vector_count; faults = m.faults; classes = r.count; found = r.found; rounds = rounds }
      matrix₀ classes₀ matrix' classes'
  unfolding counts_of_circuit matrix_of written
  graded r classes₀ classes' classed =
      record {
        counts_are = λ j. record {
          vectors = vectors_are whole m told.is j;
          faults = faults_are whole m told.is j;
          classes = count_is j;
          found = found_is j;
          rounds = marked.rounds_are j;
        };
        matrix_is = marked.matrix_is;
        classes_are = classes_are ∙ over-is (classes_of (rows_of whole)) classes₀;
      }
    where
      keys : take m.faults codes' ≡ map row_key (rows_of whole)
      keys = ap (λ (n : ℕ). take n codes') (faults_are whole m told.is) ∙ marked.keys_are

      numbers : classes_by eqb (take m.faults codes') ≡ classes_of (rows_of whole)
      numbers = ap (classes_by eqb) keys ∙ sym (classes-by-key whole told.good)

      classes_are : classes' ≡ written classes₀ 0 (classes_of (rows_of whole))
      classes_are = classed.classes_are ∙ ap (written classes₀ 0) numbers

      count_is : r.count ≡ largest (classes_of (rows_of whole))
      count_is = classed.count_is ∙ ap largest numbers

      many : length (take m.faults codes') ≡ length (rows_of whole)
      many = ap length keys ∙ length-map (rows_of whole) row_key

      found_is : r.found ≡ found_count whole
      found_is =
          classed.found_is
          ∙ ap (λ (n : ℕ). found_from matrix' classes' 0 n 0) many
          ∙ sym
          (found_all whole told.good matrix' classes' (rw matrix_here (words_are whole (rows_of whole) _))
          (rw classes_are (numbers_are (rows_of whole) _)))

-- ---- one instance

number-range : (P i : ℕ) (r : Reference) → P ≤ 64 → i < 128 → T (reference_good P i r)
    → (1 ≤ number_told (reference_record r)) × (number_told (reference_record r) ≤ 64 + 64)
unfolding reference_good reference_record
number-range P i (primary n) h q t = ((in_between 1 P n t).0, omega (arith, in_between 1 P n t))
number-range P i (output_of j) h q t = ((in_between 1 i j t).0, omega (arith, in_between 1 i j t))

module _ (c : Circuit) (good : CircuitGood c) (m : CircuitRecord) (is : m ≡ circuit_record c) (i : ℕ) (h : i < length c.instances) where
  abbrev inst : Instance
  inst = get_or c.instances i no_instance

  abbrev type : ModuleType
  type = type_of_instance c.types inst

  at : InstanceAt c i inst
  at = record { good = good; within = h; none = no_instance; is = refl }

  sound : TypeSound type
  sound = (type_at c i inst at).sound

  pub place_few : i < 128
  place_few = omega (arith, good.few_instances)

  -- e and u are what stands past the places for instances and types
  module _ (e : InstanceRecord) where
    references_are : (get_or m.instances i e).references ≡ references_of inst
    unfolding instance_record
    references_are = ap (λ (x : InstanceRecord). x.references) (instance_is c good m is i no_instance h e)

    module _ (u : TypeRecord) where
      abbrev one : InstanceRecord
      one = get_or m.instances i e

      abbrev t : TypeRecord
      t = get_or m.types (one.type_number - 1) u

      t_is : t ≡ type_record type
      t_is = type_read_lem c good m is i no_instance h e u

      type_there : TypeGiven t
      type_there = rw t_is (type_given type sound.ranges sound.few)

      type_meant : type_of t ≡ type
      type_meant = ap type_of t_is ∙ type_back type sound.ranges sound.few

      labels_are : t.labels ≡ type.labels
      unfolding type_record
      labels_are = ap (λ (x : TypeRecord). x.labels) t_is

      output_is : t.output ≡ type.output
      unfolding type_record
      output_is = ap (λ (x : TypeRecord). x.output) t_is

      references_fit : ReferencesFit (take t.labels one.references)
      references_fit =
          rw (references_are, labels_are)
          record { few = omega (arith, few, kept); some = λ l q. (range l q).0; most = λ l q. (range l q).1 }
        where
          few : type.labels ≤ 12
          few = (type-ranges type sound).labels_high

          kept : length (take type.labels (references_of inst)) ≡ type.labels
          kept = length-take-le type.labels (references_of inst) (omega (arith, few, references_long inst))

          range : (l : ℕ) → l < length (take type.labels (references_of inst))
              → (1 ≤ number_told (get_or (take type.labels (references_of inst)) l unused_reference))
              × (number_told (get_or (take type.labels (references_of inst)) l unused_reference) ≤ 64 + 64)
          range l q =
              let g = good_at c i inst at in
              let label : l < type.labels = omega (arith, kept) in
              let tied = (all_of_lem (reference_good c.inputs i) (primary 0) inst.references).0 g.references l (omega (arith, g.count)) in
              rw (get_or-take type.labels (references_of inst) l unused_reference label, reference_at_lem inst l (omega (arith, few)))
              (number-range c.inputs i (get_or inst.references l (primary 0)) good.few_inputs place_few tied)

-- ---- one turn, with e and u what stands past the places for instances and types

-- what the calls of a turn ask of an instance of type t whose codes are listed up to a place
pub record TurnFits (t : TypeRecord) (one : InstanceRecord) (s : State) (codes : List ℕ) (to : ℕ) : Type 0 where
  pub codes_long : length codes ≡ 2048
  pub order : s.from ≤ to
  pub most : to ≤ 2048
  pub room : 4 * to ≤ length s.matrix
  pub codes_fit : CodesFit codes s.from to
  pub marks : InstanceGiven t one.references s.place (between s.from to codes) (between (4 * s.from) (4 * to) s.matrix)

module _ (m : CircuitRecord) (told : CircuitGiven m) (matrix₀ : List ℕ) (room : 4 * m.faults ≤ length matrix₀) (s : State)
    (so_far : Turned told.circuit matrix₀ s) (h : s.place < length told.circuit.instances) (e : InstanceRecord) (u : TypeRecord) where
  abbrev d : Circuit
  d = told.circuit

  abbrev good : CircuitGood d
  good = told.good

  abbrev is : m ≡ circuit_record d
  is = told.is

  abbrev i : ℕ
  i = s.place

  abbrev its : InstanceRecord
  its = get_or m.instances i e

  abbrev type' : TypeRecord
  type' = get_or m.types (its.type_number - 1) u

  abbrev faults : List Bridge
  faults = faults_at d no_instance i

  abbrev given : List ℕ
  given = instance_codes i its.choice type'.highest type'.labels (take m.bridge_count m.bridges)

  few_faults : s.from + length faults ≤ length s.codes
  few_faults = omega (arith, so_far.from_is, rows_few d good i no_instance h, so_far.codes_long)

  -- there is room for the instance's codes
  pub codes_room : s.from + length given ≤ length s.codes
  codes_room = omega (arith, few_faults, length-codes d good m is i no_instance h e u)

  -- its codes listed
  module _ (codes : List ℕ) (to : ℕ) (listed : RowsListed s.codes s.from given to codes) where
    abbrev new : List Row
    new = rows_of_instance d.types d.bridges (suc i) (inst d good m is i h)

    long : to ≡ s.from + length faults
    long = listed_to d good m is i no_instance h e u s.codes s.from to codes listed few_faults

    to_is : to ≡ length (rows_before d (suc i))
    to_is = omega (arith, long, so_far.from_is, rows_grow d i no_instance h)

    within : to ≤ length (rows_of d)
    within = omega (arith, to_is, rows_within d (suc i))

    order : (s.from ≤ to) × (to ≤ 2048)
    order = (omega (arith, long), omega (arith, within, few_rows d good))

    matrix_room : 4 * to ≤ length s.matrix
    matrix_room = omega (arith, matrix_long m told matrix₀ room s so_far, within, room, faults_are d m is)

    codes_many : length codes ≡ 2048
    codes_many = listed_long d good m is i no_instance h e u s.codes s.from to codes listed few_faults ∙ so_far.codes_long

    codes_fit : CodesFit codes s.from to
    codes_fit = listed_fit d good m is i no_instance h e u s.codes s.from to codes listed few_faults

    -- its part of the codes, and of the matrix
    abbrev its_codes : List ℕ
    its_codes = between s.from to codes

    abbrev its_part : List ℕ
    its_part = between (4 * s.from) (4 * to) s.matrix

    its_many : length its_codes ≡ to - s.from
    its_many = length-between codes s.from to (omega (arith, order.1, codes_many))

    its_code : (j : ℕ) → j < to - s.from → get_or its_codes j 0 ≡ get_or codes (s.from + j) 0
    its_code j q = get_or-between codes s.from to j 0 (omega arith)

    its_codes_fit : CodesFit its_codes 0 (length its_codes)
    unfolding CodesFit
    its_codes_fit j low high =
        let inside : j < to - s.from = omega (arith, its_many) in
        rw (its_code j inside) (codes_fit (s.from + j) (omega arith) (omega arith))

    -- what the calls of a turn ask
    pub turn_fits : TurnFits type' its s codes to
    turn_fits = record {
      codes_long = codes_many;
      order = order.0;
      most = order.1;
      room = matrix_room;
      codes_fit = codes_fit;
      marks = record {
        sound = type_there d good m is i h e u;
        tied = references_fit d good m is i h e u;
        placed = place_few d good m is i h;
        room = omega (arith, length-between s.matrix (4 * s.from) (4 * to) matrix_room, its_many);
        codes = its_codes_fit;
      };
    }

    -- what the calls of a turn answer
    module _ (signals' : Signals) (part' : List ℕ) (its-rounds : ℕ)
        (marked : InstanceMarked type' its.references i m.vector_count its_codes s.signals signals' its_part part' its-rounds)
        (codes' : List ℕ)
        (keyed : codes' ≡ written codes s.from (keys_of codes (i + 1) type'.output (label_numbers its.references) s.from to))
        (rounds' : ℕ) (greatest : rounds' ≡ max s.rounds its-rounds) where
      stand : Bridge
      stand = nodes 0 0

      abbrev read : InstanceWords
      read = instance_words (type_of type') its.references s.signals

      abbrev its_words : InstanceWords
      its_words = words_of d i (inst d good m is i h)

      words_here : read ≡ its_words
      words_here = rw (type_meant d good m is i h e u, references_are d good m is i h e, so_far.signals_are)

      codes_here : (j : ℕ) → j < to - s.from → get_or codes (s.from + j) 0 ≡ code_of (suc i) (get_or faults j stand)
      codes_here j q = listed_at d good m is i no_instance h e u s.codes s.from to codes listed few_faults j (omega (arith, long)) stand

      grown : rows_before d (suc i) ≡ rows_before d i ++ new
      grown = rows_grown d i h no_instance (inst d good m is i h) refl

      -- the matrix, whose part is written over whole
      part_room : length its_part ≡ 4 * length its_codes
      part_room = omega (arith, length-between s.matrix (4 * s.from) (4 * to) matrix_room, its_many)

      all_written : part' ≡ rows_words its_codes read.rails read.labels m.vector_count
      unfolding rows_words
      all_written = marked.rows_are ∙ written_over its_part _ (length-table (4 * length its_codes) _ ∙ sym part_room)

      texts : part' ≡ join_lists (map (row_words d) new)
      texts =
          all_written
          ∙ ap (λ (r : InstanceWords). rows_words its_codes r.rails r.labels m.vector_count) words_here
          ∙ ap (rows_words its_codes its_words.rails its_words.labels) (vectors_are d m is)
          ∙ rows_words_lem d i (inst d good m is i h) (at d good m is i h) its_codes stand (omega (arith, its_many, long))
          (λ j q. let inside : j < to - s.from = omega (arith, its_many) in its_code j inside ∙ codes_here j inside)

      part_many : length part' ≡ 4 * to - 4 * s.from
      unfolding rows_words
      part_many = ap length all_written ∙ length-table (4 * length its_codes) _ ∙ omega (arith, its_many)

      matrix_next : put_mid (4 * s.from) (4 * to - 4 * s.from) s.matrix part' ≡ written matrix₀ 0 (matrix_to d (suc i))
      matrix_next =
          let added : List ℕ = join_lists (map (row_words d) new) in
          let whole : matrix_to d (suc i) ≡ matrix_to d i ++ added
          = ap (λ (l : List Row). join_lists (map (row_words d) l)) grown ∙ matrix_append d (rows_before d i) new in
          let place : 4 * s.from ≡ 0 + length (matrix_to d i) = omega (arith, so_far.from_is, length_matrix d (rows_before d i)) in
          let fits : 0 + length (matrix_to d i ++ added) ≤ length matrix₀
          = rw (← whole) (omega (arith, length_matrix d (rows_before d (suc i)), rows_within d (suc i), room, faults_are d m is)) in
          part_is s.matrix part' (4 * s.from) (4 * to - 4 * s.from) part_many
          ∙ rw (texts, so_far.matrix_is, place)
          (written_written matrix₀ 0 (matrix_to d i) added fits ∙ ap (written matrix₀ 0) (sym whole))

      -- the keys
      abbrev labels : List ℕ
      labels = label_numbers its.references

      inside : (s.from ≤ to) × (to ≤ length codes)
      inside = (order.0, omega (arith, order.1, turn_fits.codes_long))

      keys_here : keys_of codes (i + 1) type'.output labels s.from to ≡ map row_key new
      keys_here =
          rw (references_are d good m is i h e, output_is d good m is i h e u, add-one i)
          (keys_are d (suc i) (inst d good m is i h) codes s.from to stand (faults-fit d good i no_instance h) (omega (arith, long))
          codes_here)

      old_here : take s.from codes ≡ map row_key (rows_before d i)
      old_here =
          ap (take s.from) listed.listed
          ∙ take-kept s.codes s.from given (omega (arith, few_faults))
          ∙ so_far.keys_are

      keys_next : take to codes' ≡ map row_key (rows_before d (suc i))
      keys_next =
          ap (take to) keyed
          ∙ keyed_take codes (i + 1) type'.output labels s.from to inside
          ∙ rw (old_here, keys_here)
          (sym (map-append row_key (rows_before d i) new) ∙ ap (map row_key) (sym grown))

      -- the rounds
      rounds_next : rounds' ≡ greatest_to (suc i) (instance_rounds d)
      rounds_next =
          let its_own : its-rounds ≡ instance_rounds d i
          = marked.rounds_are ∙ ap (λ (r : InstanceWords). r.rails.rounds) words_here ∙ rounds_meant d good i h in
          greatest ∙ ap₂ max so_far.rounds_are its_own ∙ sym (greatest-more i (instance_rounds d))

      -- the signals
      signals_next : signals' ≡ signals_at d (suc i)
      signals_next =
          marked.signals_are
          ∙ ap (λ (r : InstanceWords). with_output s.signals i r.rails type'.output) words_here
          ∙ rw (so_far.signals_are, output_is d good m is i h e u) (signals_more d i (inst d good m is i h) (at d good m is i h))

      pub turn : Turned d matrix₀ record {
        signals = signals';
        matrix = put_mid (4 * s.from) (4 * to - 4 * s.from) s.matrix part';
        codes = codes';
        from = to;
        rounds = rounds';
        place = i + 1;
      }
      turn =
          rw (add-one i)
          record {
            inside = h;
            signals_are = signals_next;
            from_is = to_is;
            matrix_is = matrix_next;
            codes_long = ap length keyed ∙ keyed_long codes (i + 1) type'.output labels s.from to inside ∙ turn_fits.codes_long;
            keys_are = keys_next;
            rounds_are = rounds_next;
          }
