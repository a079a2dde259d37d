-- What the words of rows mean. A bridge of an instance is marked under a vector exactly when the bits of its ends say so, in the instance's words;
-- so the four words of a row's code are those of the row, and the words of an instance's codes are its rows of the matrix. Assumes nothing.
use Prim.Native.Nat.{ℕ, suc, ◌+◌, ◌-◌, ◌*◌, ◌/◌, ◌%◌, ◌<◌, min, max}
use mathlib.Core.Path.{◌≡◌, refl, sym, ap, fun_ext, ◌∙◌}
use mathlib.Core.Bool.{Bool, true, false, ◌&&◌, ◌||◌}
use mathlib.Core.Logic.{◌⊎◌, inl, inr}
use mathlib.Core.List.{List, [], map}
use native.Mathlib.Nat.{not-suc-le-zero}
use native.Mathlib.Decide.{dec_lt}
use native.Mathlib.Omega.{arith}
use borrow.Author.Tests.{lt-ltb, le-ltb}
use lib.Bits.{bit_and, and_le_r}
use lib.Dec.{T, leb, ltb, leb→le, ltb→lt, le→leb, lt→ltb}
use lib.ListN.{length, get_or, length-map, get_or-map}
use Rattle.words.specs.Bits.{bit, of_bool, first_ones}
use Rattle.words.specs.Tables.{table, up_to}
use Rattle.words.proofs.Laws.{bit_le_one, bit_or_lem, bit_and_lem, min_and, max_or, of_bool_le_one, word_of_bits}
use Rattle.words.proofs.Tables.{table_cong, up-below, up-past}
use Rattle.words.proofs.Rows.{row_word}
use Rattle.words.proofs.FirstOnes.{first_ones_lt, bit-first_ones}
use Rattle.switch.specs.Conduction.{Value, at0, at1, at_x, Joined, supply, ground}
use Rattle.switch.specs.Modules.{ModuleType, all_of, links_of}
use Rattle.switch.specs.Bridges.{Bridge, nodes, input, MarkedByEnds}
use Rattle.switch.specs.Deciding.{joins, is_marked}
use Rattle.switch.specs.Promises.{rail_words, is_at0, is_at1}
use Rattle.switch.specs.declared.Rails.{Rails}
use Rattle.switch.specs.Statements.{Accepted}
use Rattle.switch.proofs.Paths.{both}
use Rattle.switch.proofs.Deciding.{same_test, and_both, all_of_lem, joins_decides, mark_decides}
use Rattle.switch.proofs.Marks.{closed_path_is_ends, at1≢at0, at_x≢at0, at_x≢at1}
use Rattle.switch.proofs.Outputs.{bit_of_values}
use Rattle.circuit.specs.Circuit.{Circuit, Instance, Listed, Choice, exhaustive, no_faults, list, type_of_instance, join_lists, node_pairs, node_inputs}
use Rattle.circuit.specs.Circuit.{exhaustive_list, user_list, chosen, faults_of}
use Rattle.circuit.specs.Table.{bridge_suits, list_unsuited}
use Rattle.circuit.proofs.TypeLaws.{accepts}
use Rattle.grading.specs.Values.{label_values}
use Rattle.grading.specs.Rows.{Row, row_with, rows_of_instance, row_values, cell, mark_of, row_words}
use Rattle.grading.specs.Codes.{kind_of, first_end, second_end, code_of}
use Rattle.grading.proofs.CodeLaws.{code_kind, code_first, code_second}
use Rattle.grading.proofs.MatrixLaws.{matrix_table}
use Rattle.grading.proofs.OrTests.{in_first, in_second, or_cases}
use Rattle.grading.proofs.Everywhere.{Every, every_append, every_at, every_table, every_join}
use Rattle.grading.proofs.ValueLaws.{InstanceAt, type-ranges, type-accepted, good_at, type_at}
use Rattle.grade_marks.specs.declared.labels.LabelPlanes.{LabelPlanes}
use Rattle.grade_marks.specs.Model.{vector_at, outputs_at, InstanceWords, pair_word}
use Rattle.grade_marks.specs.Model.{input_mark_word, mark_word, vectors_in, rows_word, rows_words}
use Rattle.grade_marks.proofs.OutputLaws.{label_sees}
use Rattle.grade_marks.proofs.SignalMeaning.{labels_of, words_of, label_at, node_at, label_ones, label_zeros, labels_hold}

-- ---- a bridge of an instance has nodes and labels of its type

abbrev Suits : ModuleType → Bridge → Type 0
Suits t b = T (bridge_suits t b)

exhaustive-suits : (t : ModuleType) → Every (Suits t) (exhaustive_list t.highest t.labels)
unfolding exhaustive_list node_pairs node_inputs bridge_suits
exhaustive-suits t =
    let h = t.highest in
    let k = t.labels in
    let pairs : ℕ → List Bridge = λ (a : ℕ). table (h - a) (λ (j : ℕ). nodes a (a + 1 + j)) in
    let inputs : ℕ → List Bridge = λ (m : ℕ). table k (λ (l : ℕ). input m l) in
    every_append (Suits t) (node_pairs h) (node_inputs h k)
    (every_join (Suits t) (table (h + 1) pairs) (every_table (Every (Suits t)) (h + 1) pairs (λ a p.
    every_table (Suits t) (h - a) (λ (j : ℕ). nodes a (a + 1 + j)) (λ j q.
    and_both (leb a h) (leb (a + 1 + j) h) (le→leb a h (omega arith)) (le→leb (a + 1 + j) h (omega arith))))))
    (every_join (Suits t) (table (h + 1) inputs) (every_table (Every (Suits t)) (h + 1) inputs (λ m p.
    every_table (Suits t) k (λ (l : ℕ). input m l) (λ l q. and_both (leb m h) (ltb l k) (le→leb m h (omega arith)) (lt→ltb l k q)))))

pub faults_suit : (types : List ModuleType) (bridges : List Listed) (inst : Instance)
    → list_unsuited (type_of_instance types inst) bridges inst.choice ≡ false
    → (j : ℕ) (d : Bridge) → j < length (faults_of types bridges inst)
    → T (bridge_suits (type_of_instance types inst) (get_or (faults_of types bridges inst) j d))
unfolding faults_of chosen list_unsuited
faults_suit types bridges inst = go inst.choice
  where
    t : ModuleType
    t = type_of_instance types inst

    go : (choice : Choice) → list_unsuited t bridges choice ≡ false
        → (j : ℕ) (d : Bridge) → j < length (chosen t bridges choice) → Suits t (get_or (chosen t bridges choice) j d)
    go exhaustive e j d h = every_at (Suits t) (exhaustive_list t.highest t.labels) (exhaustive-suits t) j d h
    go no_faults e j d h = absurd (not-suc-le-zero h)
    go (list n) e j d h = (all_of_lem (bridge_suits t) d (user_list n bridges)).0 (accepts (all_of (bridge_suits t) (user_list n bridges)) e) j h

-- ---- marks by the ends' bits

module _ (t : ModuleType) (accepted : Accepted t) (values : ℕ → Value) where
  abbrev to : ℕ → ℕ → Bool
  to m rail = joins (links_of t values) m rail

  by_ends : (b : Bridge) → T (is_marked t values b) → MarkedByEnds t values b
  by_ends b m = (closed_path_is_ends t accepted values b).0 ((mark_decides t values b).1 m)

  of_ends : (b : Bridge) → MarkedByEnds t values b → T (is_marked t values b)
  of_ends b e = (mark_decides t values b).0 ((closed_path_is_ends t accepted values b).1 e)

  joined : (m rail : ℕ) → T (to m rail) → Joined (links_of t values) m rail
  joined m rail = (joins_decides (links_of t values) m rail).1

  tested : (m rail : ℕ) → Joined (links_of t values) m rail → T (to m rail)
  tested m rail = (joins_decides (links_of t values) m rail).0

  module _ (a b : ℕ) where
    one_way : Bool
    one_way = to a supply && to b ground

    other_way : Bool
    other_way = to a ground && to b supply

    ways_mark : T one_way ⊎ T other_way → T (is_marked t values (nodes a b))
    unfolding one_way other_way MarkedByEnds
    ways_mark (inl p) =
        let ends = both (to a supply) (to b ground) p in of_ends (nodes a b) (inl (joined a supply ends.0, joined b ground ends.1))
    ways_mark (inr p) =
        let ends = both (to a ground) (to b supply) p in of_ends (nodes a b) (inr (joined a ground ends.0, joined b supply ends.1))

    mark_ways : MarkedByEnds t values (nodes a b) → T (one_way || other_way)
    unfolding one_way other_way MarkedByEnds
    mark_ways (inl (p, q)) = in_first one_way other_way (and_both (to a supply) (to b ground) (tested a supply p) (tested b ground q))
    mark_ways (inr (p, q)) = in_second one_way other_way (and_both (to a ground) (to b supply) (tested a ground p) (tested b supply q))

    pair_mark : max (min (of_bool (to a supply)) (of_bool (to b ground))) (min (of_bool (to a ground)) (of_bool (to b supply)))
        ≡ of_bool (is_marked t values (nodes a b))
    unfolding one_way other_way
    pair_mark =
        rw (min_and (to a supply) (to b ground), min_and (to a ground) (to b supply), max_or one_way other_way)
        (ap of_bool (same_test (one_way || other_way) (is_marked t values (nodes a b))
        (λ p. ways_mark (or_cases one_way other_way p)) (λ p. mark_ways (by_ends (nodes a b) p))))

  module _ (m l : ℕ) where
    abbrev b : Bridge
    b = input m l

    input_mark : (x : Value) → values l ≡ x
        → max (min (is_at1 x) (of_bool (to m ground))) (min (is_at0 x) (of_bool (to m supply))) ≡ of_bool (is_marked t values (input m l))
    unfolding is_at1 is_at0 MarkedByEnds
    input_mark at1 e =
        let same = same_test (to m ground) (is_marked t values b) (λ p. of_ends b (inl (e, joined m ground p))) (λ p. at_1 (by_ends b p)) in
        omega (arith, ap of_bool same, of_bool_le_one (to m ground))
      where
        at_1 : MarkedByEnds t values b → T (to m ground)
        at_1 (inl (f, j)) = tested m ground j
        at_1 (inr (f, j)) = absurd (at1≢at0 (sym e ∙ f))
    input_mark at0 e =
        let same = same_test (to m supply) (is_marked t values b) (λ p. of_ends b (inr (e, joined m supply p))) (λ p. at_0 (by_ends b p)) in
        omega (arith, ap of_bool same, of_bool_le_one (to m supply))
      where
        at_0 : MarkedByEnds t values b → T (to m supply)
        at_0 (inl (f, j)) = absurd (at1≢at0 (sym f ∙ e))
        at_0 (inr (f, j)) = tested m supply j
    input_mark at_x e =
        let same = same_test false (is_marked t values b) (λ p. absurd p) (λ p. at_x_lem (by_ends b p)) in
        omega (arith, ap of_bool same)
      where
        at_x_lem : MarkedByEnds t values b → T false
        at_x_lem (inl (f, j)) = absurd (at_x≢at1 (sym e ∙ f))
        at_x_lem (inr (f, j)) = absurd (at_x≢at0 (sym e ∙ f))

-- ---- a code's word

module _ (rails : Rails) (labels : LabelPlanes) (w : ℕ) where
  nodes_word : (n a b : ℕ) → a < 32 → b < 32 → mark_word rails labels (code_of n (nodes a b)) w ≡ pair_word rails (4 * a + w) (4 * b + w)
  unfolding mark_word kind_of first_end second_end
  nodes_word n a b ha hb =
      let d : Bridge = nodes a b in rw (code_kind n d (ha, hb), code_first n d (ha, hb), code_second n d (ha, hb))

  input_word_lem : (n m l : ℕ) → m < 32 → l < 12
      → mark_word rails labels (code_of n (input m l)) w ≡ input_mark_word rails labels (4 * m + w) (4 * l + w)
  unfolding mark_word kind_of first_end second_end
  input_word_lem n m l hm hl =
      let d : Bridge = input m l in rw (code_kind n d (hm, hl), code_first n d (hm, hl), code_second n d (hm, hl))

-- ---- the rows of an instance

module _ (c : Circuit) (i : ℕ) (inst : Instance) (at : InstanceAt c i inst) where
  -- the row of a bridge of the instance
  abbrev row_at : Bridge → Row
  row_at = row_with c.types (suc i) inst

  module _ (w v : ℕ) (hw : w < 4) (hv : v < 64) where
    -- the values of the labels under this vector
    abbrev values : ℕ → Value
    values = label_values (vector_at c (64 * w + v)) (outputs_at c i (64 * w + v)) inst

    rail_bit : (rail m : ℕ) → m < 32
        → let t = type_of_instance c.types inst in
        bit (get_or (rail_words t (labels_of is_at1 c i inst w) (labels_of is_at0 c i inst w) rail) m 0) v ≡ of_bool (joins (links_of t values) m rail)
    rail_bit rail m h =
        let t : ModuleType = type_of_instance c.types inst in
        bit_of_values t (labels_of is_at1 c i inst w) (labels_of is_at0 c i inst w) rail m v values h hv (labels_hold c i inst at w v hw hv)

    supply_bit : (m : ℕ) → m < 32
        → bit (get_or (words_of c i inst).rails.supply (4 * m + w) 0) v
        ≡ of_bool (joins (links_of (type_of_instance c.types inst) values) m supply)
    supply_bit m h = rw (node_at c i inst supply m w h hw) (rail_bit supply m h)

    ground_bit : (m : ℕ) → m < 32
        → bit (get_or (words_of c i inst).rails.ground (4 * m + w) 0) v
        ≡ of_bool (joins (links_of (type_of_instance c.types inst) values) m ground)
    ground_bit m h = rw (node_at c i inst ground m w h hw) (rail_bit ground m h)

    ones_bit : (l : ℕ) → l < 12 → bit (get_or (words_of c i inst).labels.ones (4 * l + w) 0) v ≡ is_at1 (values l)
    ones_bit l h = rw (label_at c i inst is_at1 l w h hw) (label_ones c i inst at w v l hw hv)

    zeros_bit : (l : ℕ) → l < 12 → bit (get_or (words_of c i inst).labels.zeros (4 * l + w) 0) v ≡ is_at0 (values l)
    zeros_bit l h = rw (label_at c i inst is_at0 l w h hw) (label_zeros c i inst at w v l hw hv)

    -- the bit of a row's code is its mark
    mark_bit : (b : Bridge) → T (bridge_suits (type_of_instance c.types inst) b)
        → let words = words_of c i inst in
        bit (mark_word words.rails words.labels (code_of (suc i) b) w) v
        ≡ of_bool (is_marked (type_of_instance c.types inst) values b)
    unfolding bridge_suits
    mark_bit (nodes a b) suits =
        let t : ModuleType = type_of_instance c.types inst in
        let words : InstanceWords = words_of c i inst in
        let tg = type_at c i inst at in
        let high = (type-ranges t tg.sound).highest in
        let ends = both (leb a t.highest) (leb b t.highest) suits in
        let ha : a < 32 = omega (arith, leb→le a t.highest ends.0) in
        let hb : b < 32 = omega (arith, leb→le b t.highest ends.1) in
        rw (nodes_word words.rails words.labels w (suc i) a b ha hb, bit_or_lem)
        (simp (bit_and_lem, supply_bit a ha, ground_bit b hb, ground_bit a ha, supply_bit b hb)
        (pair_mark t (type-accepted t tg) values a b))
    mark_bit (input m l) suits =
        let t : ModuleType = type_of_instance c.types inst in
        let words : InstanceWords = words_of c i inst in
        let tg = type_at c i inst at in
        let ranges = type-ranges t tg.sound in
        let ends = both (leb m t.highest) (ltb l t.labels) suits in
        let hm : m < 32 = omega (arith, leb→le m t.highest ends.0, ranges.highest) in
        let hl : l < 12 = omega (arith, ltb→lt l t.labels ends.1, ranges.labels_high) in
        rw (input_word_lem words.rails words.labels w (suc i) m l hm hl, bit_or_lem)
        (simp (bit_and_lem, supply_bit m hm, ground_bit m hm, ones_bit l hl, zeros_bit l hl)
        (input_mark t (type-accepted t tg) values m l (values l) refl))

    -- under every vector the row's values are those that the instance has when its turn comes
    row_values_lem : (b : Bridge) → row_values c (get_or c.vectors (64 * w + v) []) (row_at b) ≡ values
    unfolding row_values vector_at
    row_values_lem b = fun_ext (label_sees c i inst at (64 * w + v))

    mark_is : (b : Bridge) → mark_of c (row_at b) (64 * w + v) ≡ of_bool (is_marked (type_of_instance c.types inst) values b)
    unfolding mark_of cell
    mark_is b = ap (λ (x : ℕ → Value). of_bool (is_marked (type_of_instance c.types inst) x b)) (row_values_lem b)

  pub row_words_lem : (b : Bridge) → T (bridge_suits (type_of_instance c.types inst) b) → (w : ℕ) → w < 4
      → let words = words_of c i inst in
      bit_and (mark_word words.rails words.labels (code_of (suc i) b) w) (vectors_in (length c.vectors) w)
      ≡ get_or (row_words c (row_at b)) w 0
  unfolding row_words
  row_words_lem b suits w hw =
      word_of_bits (bit_and mark ones) bits (omega (arith, and_le_r mark ones, first_ones_lt (count - 64 * w))) (λ v hv. same v hv (dec_lt (64 * w + v) count))
      ∙ sym (row_word count (mark_of c (row_at b)) w hw)
    where
      count : ℕ
      count = length c.vectors

      mark : ℕ
      mark = mark_word (words_of c i inst).rails (words_of c i inst).labels (code_of (suc i) b) w

      ones : ℕ
      ones = first_ones (count - 64 * w)

      bits : ℕ → ℕ
      bits v = up_to count (mark_of c (row_at b)) (64 * w + v)

      same : (v : ℕ) → v < 64 → Dec (64 * w + v < count) → bit (bit_and mark ones) v ≡ bits v
      same v hv (yes h) =
          let here : ltb v (count - 64 * w) ≡ true = lt-ltb v (count - 64 * w) (omega arith) in
          let meant = mark_bit w v hw hv b suits ∙ sym (mark_is w v hw hv b) in
          rw (bit_and_lem, bit-first_ones (count - 64 * w) v hv, here, up-below count (mark_of c (row_at b)) (64 * w + v) h)
          (omega (arith, meant, bit_le_one mark v))
      same v hv (no h) =
          let here : ltb v (count - 64 * w) ≡ false = le-ltb v (count - 64 * w) (omega arith) in
          rw (bit_and_lem, bit-first_ones (count - 64 * w) v hv, here, up-past count (mark_of c (row_at b)) (64 * w + v) (omega arith)) (omega arith)

  -- the codes of the instance's faults give its rows of the matrix
  pub rows_words_lem : (codes : List ℕ) (d : Bridge)
      → let faults = faults_of c.types c.bridges inst in
      length codes ≡ length faults → ((j : ℕ) → j < length codes → get_or codes j 0 ≡ code_of (suc i) (get_or faults j d))
      → let words = words_of c i inst in
      rows_words codes words.rails words.labels (length c.vectors)
      ≡ join_lists (map (row_words c) (rows_of_instance c.types c.bridges (suc i) inst))
  unfolding rows_words rows_word rows_of_instance
  rows_words_lem codes d long are =
      table_cong (4 * length codes) (rows_word codes words.rails words.labels (length c.vectors)) meant each
      ∙ ap (λ (n : ℕ). table (4 * n) meant) (long ∙ sym (length-map faults (row_at)))
      ∙ sym (matrix_table c (row_at d) (map (row_at) faults))
    where
      words : InstanceWords
      words = words_of c i inst

      faults : List Bridge
      faults = faults_of c.types c.bridges inst

      meant : ℕ → ℕ
      meant j = get_or (row_words c (get_or (map (row_at) faults) (j / 4) (row_at d))) (j % 4) 0

      each : (j : ℕ) → j < 4 * length codes → rows_word codes words.rails words.labels (length c.vectors) j ≡ meant j
      each j h =
          let suits = faults_suit c.types c.bridges inst (good_at c i inst at).suited (j / 4) d (omega (arith, long)) in
          rw (are (j / 4) (omega arith), get_or-map (row_at) faults (j / 4) d)
          (row_words_lem (get_or faults (j / 4) d) suits (j % 4) (omega arith))
