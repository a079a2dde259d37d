-- What the signals' words mean. The words of the vectors' columns are the inputs' planes; a label's words, read from the signals at its reference, are the
-- planes of its value; the output's planes written behind the signals are the signals with one instance more. Each law is over a plane. Assumes nothing.
use Prim.Native.Nat.{ℕ, zero, suc, ◌+◌, ◌-◌, ◌*◌, ◌/◌, ◌%◌, ◌<◌, ◌≤◌}
use mathlib.Core.Path.{◌≡◌, refl, sym, ap, ◌∙◌}
use mathlib.Core.List.{List, [], ◌∷◌, ◌++◌, map}
use native.Mathlib.Decide.{dec_lt}
use native.Mathlib.Omega.{arith}
use borrow.Author.Tests.{lt-ltb, le-ltb}
use lib.Dec.{T}
use lib.ListN.{length, get_or, take, length-append, get_or-append, get_or-eq_default, get_or-map}
use lib.Seq.{get_or-append_seam, get_or-take, length-take-le}
use Rattle.words.specs.Bits.{bit, pack, word}
use Rattle.words.specs.Each.{word_of_each}
use Rattle.words.specs.Tables.{table, up_to}
use Rattle.words.specs.Written.{written}
use Rattle.words.proofs.Laws.{bit-zero, bit_past, bit-pack, pack_lt, pack_cong, pack-zero, bit_word}
use Rattle.words.proofs.Tables.{length-table, get_or-table, is-table, table_cong, up-below, up-past}
use Rattle.words.proofs.EachLaws.{four_at, word_of_four}
use Rattle.words.proofs.WrittenLaws.{length_written, written_before, written_here, written_after}
use Rattle.switch.specs.Conduction.{Value, at_x, supply, ground}
use Rattle.switch.specs.Modules.{ModuleType}
use Rattle.switch.specs.Deciding as deciding
use Rattle.switch.specs.Promises.{rail_words, four_rail_words, is_at0, is_at1, PlanesHold, planes}
use Rattle.switch.specs.declared.Planes.{Planes}
use Rattle.switch.proofs.Channels.{in_between}
use Rattle.switch.proofs.Deciding.{all_of_lem}
use Rattle.switch.proofs.Outputs.{word_cong, at1-small, at0-small, output-planes}
use Rattle.circuit.specs.Circuit.{Circuit, Reference, primary, output_of, Instance, numbered, type_of_instance}
use Rattle.circuit.specs.Numbers.{reference_good}
use Rattle.circuit.specs.Records.{padded, unused_reference, reference_record, unused_vector, vector_record}
use Rattle.circuit.specs.Laws.{InstanceGood}
use Rattle.circuit.specs.declared.Reference.{Reference as ReferenceRecord}
use Rattle.circuit.specs.declared.Vector.{Vector as VectorRecord}
use Rattle.circuit.proofs.Padding.{get_or-padded}
use Rattle.grading.specs.Values.{value_at, label_values, outputs_of, outputs_after}
use Rattle.grading.proofs.RecordReads.{references_of, reference_at_lem}
use Rattle.grading.proofs.ValueLaws.{InstanceAt, type-ranges, good_at, type_at, label_value, label_past}
use Rattle.grade_marks.specs.Model.{vector_at, outputs_at, signal_at, signal_word, signal_words, place_of_signal, signal_of}
use Rattle.grade_inputs.specs.declared.Signals.{Signals}
use Rattle.grade_inputs.specs.Inputs.{ones_of, zeros_of, input_word, input_words}
use Rattle.grade_marks.specs.Model.{label_words, label_plane, InstanceWords, instance_words, output_planes, with_output}
use Rattle.grade_marks.proofs.OutputLaws.{new_output, length-outputs_at, outputs_more}

-- the records of its references, one for each label
abbrev pub label_references : Circuit → Instance → List ReferenceRecord
label_references c inst = take (type_of_instance c.types inst).labels (references_of inst)

-- word w of its labels, in a plane
abbrev pub labels_of : (Value → ℕ) → Circuit → ℕ → Instance → ℕ → List ℕ
labels_of plane c i inst = label_words (label_references c inst) (signal_words plane c i)

-- the signals before the instance at i
abbrev pub signals_at : Circuit → ℕ → Signals
signals_at c i = record { ones = signal_words is_at1 c i; zeros = signal_words is_at0 c i }

-- how many words the vectors fill
abbrev pub word_count : Circuit → ℕ
word_count c = (length c.vectors + 63) / 64

-- what the rows of the instance at i are read from
abbrev pub words_of : Circuit → ℕ → Instance → InstanceWords
words_of c i inst = instance_words (type_of_instance c.types inst) (references_of inst) (signals_at c i)

pub references_long : (inst : Instance) → length (references_of inst) ≡ 12
unfolding padded
references_long inst = length-table 12 _

-- ---- planes

word-zero : (f : ℕ → ℕ) → ((v : ℕ) → f v ≡ 0) → word f ≡ 0
unfolding word
word-zero f z = pack_cong 64 f (λ (v : ℕ). 0) (λ v h. z v) ∙ pack-zero 64

-- a plane gives a bit to each value, and 0 to X
module _ (plane : Value → ℕ) (small : (x : Value) → plane x ≤ 1) (off : plane at_x ≡ 0) (c : Circuit) where
  -- ---- the inputs

  -- bit s of a vector's word
  vector_bit : (vector : List Value) (s : ℕ) → bit (pack (length vector) (λ (j : ℕ). plane (get_or vector j at_x))) s ≡ plane (get_or vector s at_x)
  vector_bit vector s = go (dec_lt s (length vector))
    where
      bits : ℕ → ℕ
      bits j = plane (get_or vector j at_x)

      go : Dec (s < length vector) → bit (pack (length vector) bits) s ≡ plane (get_or vector s at_x)
      go (yes h) = bit-pack (length vector) bits (λ j k. small (get_or vector j at_x)) s h
      go (no h) =
          bit_past (length vector) (pack (length vector) bits) s (pack_lt (length vector) bits (λ j k. small (get_or vector j at_x))) (omega arith)
          ∙ sym (ap plane (get_or-eq_default vector at_x (omega arith)) ∙ off)

  signal_input : (n u s : ℕ) → s < 64 → signal_at c n u s ≡ get_or (vector_at c u) s at_x
  unfolding signal_at
  signal_input n u s h = rw (lt-ltb s 64 h)

  signal_output : (n u s : ℕ) → 64 ≤ s → signal_at c n u s ≡ get_or (outputs_at c n u) (s - 64) at_x
  unfolding signal_at
  signal_output n u s h = rw (le-ltb s 64 h)

  module _ (column : List ℕ)
      (is : (u : ℕ) → u < 256 → get_or column u 0 ≡ pack (length (vector_at c u)) (λ (j : ℕ). plane (get_or (vector_at c u) j at_x))) where
    input_plane : (j : ℕ) → j < 256 → input_word column (j / 4) (j % 4) ≡ signal_word plane c 0 j
    unfolding input_word signal_word
    input_plane j h =
        word_cong
        (λ (v : ℕ). bit (get_or column (64 * (j % 4) + v) 0) (j / 4))
        (λ (v : ℕ). plane (signal_at c 0 (64 * (j % 4) + v) (j / 4)))
        (λ v k.
        let u : ℕ = 64 * (j % 4) + v in
        ap (λ (x : ℕ). bit x (j / 4)) (is u (omega arith))
        ∙ vector_bit (vector_at c u) (j / 4)
        ∙ ap plane (sym (signal_input 0 u (j / 4) (omega arith))))

    -- a vector that is not there is X at each input
    missing_plane : (j : ℕ) → j < 256 → word_count c ≤ j % 4 → 0 ≡ signal_word plane c 0 j
    unfolding signal_word vector_at
    missing_plane j h past =
        sym (word-zero (λ (v : ℕ). plane (signal_at c 0 (64 * (j % 4) + v) (j / 4))) (λ v.
        let u : ℕ = 64 * (j % 4) + v in
        ap plane (signal_input 0 u (j / 4) (omega arith)
        ∙ ap (λ (vector : List Value). get_or vector (j / 4) at_x) (get_or-eq_default c.vectors [] (omega arith)))
        ∙ off))

    -- there is no output yet
    output_plane : (j : ℕ) → 256 ≤ j → 0 ≡ signal_word plane c 0 j
    unfolding signal_word outputs_at outputs_of outputs_after
    output_plane j h =
        sym (word-zero (λ (v : ℕ). plane (signal_at c 0 (64 * (j % 4) + v) (j / 4))) (λ v.
        ap plane (signal_output 0 (64 * (j % 4) + v) (j / 4) (omega arith)) ∙ off))

    start_plane : input_words column (word_count c) ≡ signal_words plane c 0
    unfolding input_words signal_words
    start_plane = table_cong 768 (up_to 256 words) (signal_word plane c 0) (λ j h. at j (dec_lt j 256) (dec_lt (j % 4) (word_count c)))
      where
        words : ℕ → ℕ
        words j = up_to (word_count c) (input_word column (j / 4)) (j % 4)

        at : (j : ℕ) → Dec (j < 256) → Dec (j % 4 < word_count c) → up_to 256 words j ≡ signal_word plane c 0 j
        at j (yes h) (yes q) = up-below 256 words j h ∙ up-below (word_count c) (input_word column (j / 4)) (j % 4) q ∙ input_plane j h
        at j (yes h) (no q) =
            up-below 256 words j h ∙ up-past (word_count c) (input_word column (j / 4)) (j % 4) (omega arith) ∙ missing_plane j h (omega arith)
        at j (no h) q = up-past 256 words j (omega arith) ∙ output_plane j (omega arith)

  -- ---- a label

  -- a good reference's signal, and its value there
  signal_place : (P i : ℕ) (r : Reference) → P ≤ 64 → i < 128 → T (reference_good P i r) → signal_of (reference_record r) < 192
  unfolding signal_of place_of_signal reference_record reference_good
  signal_place P i (primary n) h k t = omega (arith, in_between 1 P n t)
  signal_place P i (output_of j) h k t = omega (arith, in_between 1 i j t)

  signal_value : (P i u : ℕ) (r : Reference) → P ≤ 64 → T (reference_good P i r)
      → signal_at c i u (signal_of (reference_record r)) ≡ value_at (vector_at c u) (outputs_at c i u) r
  unfolding signal_of place_of_signal reference_record reference_good value_at numbered
  signal_value P i u (primary zero) h t = absurd (omega (arith, in_between 1 P 0 t))
  signal_value P i u (primary (suc n)) h t =
      signal_input i u (suc n - 1) (omega (arith, in_between 1 P (suc n) t)) ∙ ap (λ (m : ℕ). get_or (vector_at c u) m at_x) (omega arith)
  signal_value P i u (output_of zero) h t = absurd (omega (arith, in_between 1 i 0 t))
  signal_value P i u (output_of (suc j)) h t =
      signal_output i u (63 + suc j) (omega arith) ∙ ap (λ (m : ℕ). get_or (outputs_at c i u) m at_x) (omega arith)

  -- bit v of word w of a signal
  signal_bit : (n s w v : ℕ) → s < 192 → w < 4 → v < 64 → bit (get_or (signal_words plane c n) (4 * s + w) 0) v ≡ plane (signal_at c n (64 * w + v) s)
  unfolding signal_words signal_word
  signal_bit n s w v hs hw hv =
      let high : (4 * s + w) / 4 ≡ s = omega arith in
      let low : (4 * s + w) % 4 ≡ w = omega arith in
      rw (get_or-table 768 (signal_word plane c n) 0 (4 * s + w) (omega arith), high, low)
      (bit_word (λ (m : ℕ). plane (signal_at c n (64 * w + m) s)) (λ m. small (signal_at c n (64 * w + m) s)) v hv)

  module _ (i : ℕ) (inst : Instance) (at : InstanceAt c i inst) where
    -- bit v of word w of a label
    label_bit : (w v l : ℕ) → w < 4 → v < 64
        → bit (get_or (labels_of plane c i inst w) l 0) v
        ≡ plane (label_values (vector_at c (64 * w + v)) (outputs_at c i (64 * w + v)) inst l)
    unfolding label_words
    label_bit w v l hw hv = rw kept (go (dec_lt l k))
      where
        g : InstanceGood c.inputs c.types c.bridges i inst
        g = good_at c i inst at

        k : ℕ
        k = (type_of_instance c.types inst).labels

        few : k ≤ 12
        few = (type-ranges (type_of_instance c.types inst) (type_at c i inst at).sound).labels_high

        kept : length (label_references c inst) ≡ k
        kept = length-take-le k (references_of inst) (omega (arith, few, references_long inst))

        from : ℕ → ℕ
        from m = get_or (signal_words plane c i) (4 * signal_of (get_or (label_references c inst) m unused_reference) + w) 0

        u : ℕ
        u = 64 * w + v

        r : Reference
        r = get_or inst.references l (primary 0)

        past : k ≤ l → get_or (table 12 (up_to k from)) l 0 ≡ 0
        past h = past_both (dec_lt l 12)
          where
            past_both : Dec (l < 12) → get_or (table 12 (up_to k from)) l 0 ≡ 0
            past_both (yes q) = get_or-table 12 (up_to k from) 0 l q ∙ up-past k from l h
            past_both (no q) = get_or-eq_default (table 12 (up_to k from)) 0 (omega (arith, length-table 12 (up_to k from)))

        go : Dec (l < k) → bit (get_or (table 12 (up_to k from)) l 0) v ≡ plane (label_values (vector_at c u) (outputs_at c i u) inst l)
        go (yes h) =
            let tied = (all_of_lem (reference_good c.inputs i) (primary 0) inst.references).0 g.references l (omega (arith, g.count)) in
            let inside = signal_place c.inputs i r at.good.few_inputs (omega (arith, at.within, at.good.few_instances)) tied in
            let place : l < 12 = omega (arith, few) in
            rw (
              get_or-table 12 (up_to k from) 0 l place,
              up-below k from l h,
              get_or-take k (references_of inst) l unused_reference h,
              reference_at_lem inst l place,
              signal_bit i (signal_of (reference_record r)) w v inside hw hv,
            )
            (ap plane (signal_value c.inputs i u r at.good.few_inputs tied ∙ sym (label_value (vector_at c u) (outputs_at c i u) inst l)))
        go (no h) =
            ap (λ (x : ℕ). bit x v) (past (omega arith))
            ∙ bit-zero v
            ∙ sym (ap plane (label_past (vector_at c u) (outputs_at c i u) inst l (omega (arith, g.count))) ∙ off)

    -- ---- one instance more

    signal_new : (u : ℕ) → signal_at c (suc i) u (64 + i) ≡ new_output c i inst u
    signal_new u =
        signal_output (suc i) u (64 + i) (omega arith)
        ∙ ap (λ (os : List Value). get_or os (64 + i - 64) at_x) (outputs_more c i inst at u)
        ∙ ap (λ (n : ℕ). get_or (outputs_at c i u ++ (new_output c i inst u ∷ [])) n at_x) (omega (arith, length-outputs_at c i u (omega (arith, at.within))))
        ∙ get_or-append_seam (outputs_at c i u) (new_output c i inst u) [] at_x

    signal_old : (u s : ℕ) → (s ≡ 64 + i → ⊥) → signal_at c i u s ≡ signal_at c (suc i) u s
    signal_old u s apart = go (dec_lt s 64) (dec_lt s (64 + i))
      where
        before : List Value
        before = outputs_at c i u

        after : List Value
        after = before ++ (new_output c i inst u ∷ [])

        long : length before ≡ i
        long = length-outputs_at c i u (omega (arith, at.within))

        go : Dec (s < 64) → Dec (s < 64 + i) → signal_at c i u s ≡ signal_at c (suc i) u s
        go (yes h) q = signal_input i u s h ∙ sym (signal_input (suc i) u s h)
        go (no h) (yes q) =
            signal_output i u s (omega arith)
            ∙ sym (signal_output (suc i) u s (omega arith)
            ∙ ap (λ (os : List Value). get_or os (s - 64) at_x) (outputs_more c i inst at u)
            ∙ get_or-append before (new_output c i inst u ∷ []) at_x (s - 64) (omega (arith, long)))
        go (no h) (no q) =
            signal_output i u s (omega arith)
            ∙ get_or-eq_default before at_x (omega (arith, long))
            ∙ sym (signal_output (suc i) u s (omega arith)
            ∙ ap (λ (os : List Value). get_or os (s - 64) at_x) (outputs_more c i inst at u)
            ∙ get_or-eq_default after at_x (omega (arith, long, length-append before (new_output c i inst u ∷ []), apart)))

    -- the output's four words, behind the signals before it
    more_plane : (text : List ℕ) → length text ≡ 4 → ((w : ℕ) → w < 4 → get_or text w 0 ≡ word (λ (v : ℕ). plane (new_output c i inst (64 * w + v))))
        → written (signal_words plane c i) (4 * (64 + i)) text ≡ signal_words plane c (suc i)
    unfolding signal_words signal_word
    more_plane text four each =
        is-table 0 768 (signal_word plane c (suc i)) (written buffer place text)
        (length_written buffer place text fits ∙ length-table 768 (signal_word plane c i))
        (λ j h. go j h (dec_lt j place) (dec_lt j (place + 4)))
      where
        buffer : List ℕ
        buffer = table 768 (signal_word plane c i)

        place : ℕ
        place = 4 * (64 + i)

        fits : place + length text ≤ length buffer
        fits = omega (arith, four, length-table 768 (signal_word plane c i), at.within, at.good.few_instances)

        old : (j : ℕ) → (j / 4 ≡ 64 + i → ⊥) → signal_word plane c i j ≡ signal_word plane c (suc i) j
        old j apart =
            word_cong (λ (v : ℕ). plane (signal_at c i (64 * (j % 4) + v) (j / 4))) (λ (v : ℕ). plane (signal_at c (suc i) (64 * (j % 4) + v) (j / 4)))
            (λ v k. ap plane (signal_old (64 * (j % 4) + v) (j / 4) apart))

        new : (w : ℕ) → w < 4 → word (λ (v : ℕ). plane (new_output c i inst (64 * w + v))) ≡ signal_word plane c (suc i) (place + w)
        new w h =
            let high : (place + w) / 4 ≡ 64 + i = omega arith in
            let low : (place + w) % 4 ≡ w = omega arith in
            rw (high, low)
            (word_cong (λ (v : ℕ). plane (new_output c i inst (64 * w + v))) (λ (v : ℕ). plane (signal_at c (suc i) (64 * w + v) (64 + i)))
            (λ v k. ap plane (sym (signal_new (64 * w + v)))))

        go : (j : ℕ) → j < 768 → Dec (j < place) → Dec (j < place + 4) → get_or (written buffer place text) j 0 ≡ signal_word plane c (suc i) j
        go j h (yes q) p =
            written_before buffer place text fits j q ∙ get_or-table 768 (signal_word plane c i) 0 j h ∙ old j (λ e. omega arith)
        go j h (no q) (yes p) =
            let w : ℕ = j - place in
            let here : j ≡ place + w = omega arith in
            ap (λ (n : ℕ). get_or (written buffer place text) n 0) here
            ∙ written_here buffer place text fits w (omega (arith, four))
            ∙ each w (omega arith)
            ∙ new w (omega arith)
            ∙ ap (signal_word plane c (suc i)) (sym here)
        go j h (no q) (no p) =
            written_after buffer place text fits j (omega (arith, four)) ∙ get_or-table 768 (signal_word plane c i) 0 j h ∙ old j (λ e. omega arith)

-- ---- the laws

-- word w of a label, and of a node for a rail
module _ (c : Circuit) (i : ℕ) (inst : Instance) where
  abbrev planes_of_labels : (Value → ℕ) → List ℕ
  planes_of_labels plane = label_plane (label_references c inst) (signal_words plane c i)

  pub label_at : (plane : Value → ℕ) (l w : ℕ) → l < 12 → w < 4 → get_or (planes_of_labels plane) (4 * l + w) 0 ≡ get_or (labels_of plane c i inst w) l 0
  unfolding label_plane
  label_at plane l w h k = four_at 12 (labels_of plane c i inst) l w h k

  pub labels_again : (plane : Value → ℕ) (w : ℕ) → w < 4 → word_of_each 4 w 12 (planes_of_labels plane) ≡ labels_of plane c i inst w
  unfolding label_plane label_words
  labels_again plane w k = word_of_four 12 (labels_of plane c i inst) w k (length-table 12 _)

  pub node_at : (rail m w : ℕ) → m < 32 → w < 4
      → let t = type_of_instance c.types inst in
      get_or (four_rail_words t (planes_of_labels is_at1) (planes_of_labels is_at0) rail) (4 * m + w) 0
      ≡ get_or (rail_words t (labels_of is_at1 c i inst w) (labels_of is_at0 c i inst w) rail) m 0
  unfolding four_rail_words
  node_at rail m w h k =
      let t : ModuleType = type_of_instance c.types inst in
      four_at 32 (λ (x : ℕ). rail_words t (word_of_each 4 x 12 (planes_of_labels is_at1)) (word_of_each 4 x 12 (planes_of_labels is_at0)) rail) m w h k
      ∙ rw (labels_again is_at1 w k, labels_again is_at0 w k)

module _ (c : Circuit) where
  -- a column of the vectors' records
  column_at : (field : VectorRecord → ℕ) (u : ℕ) → u < 256 → field (vector_record []) ≡ 0
      → get_or (map field (padded 256 unused_vector (map vector_record c.vectors))) u 0 ≡ field (vector_record (vector_at c u))
  unfolding vector_at vector_record pack
  column_at field u h e =
      let records = padded 256 unused_vector (map vector_record c.vectors) in
      ap (get_or (map field records) u) (sym e)
      ∙ get_or-map field records u unused_vector
      ∙ ap field (get_or-padded unused_vector 256 (map vector_record c.vectors) unused_vector u h ∙ get_or-map vector_record c.vectors u [])

  pub signals_start : let vectors = padded 256 unused_vector (map vector_record c.vectors) in
      (input_words (ones_of vectors) (word_count c) ≡ signal_words is_at1 c 0) × (input_words (zeros_of vectors) (word_count c) ≡ signal_words is_at0 c 0)
  unfolding ones_of zeros_of vector_record is_at1 is_at0 pack
  signals_start =
      let vectors = padded 256 unused_vector (map vector_record c.vectors) in (
        start_plane is_at1 at1-small refl c (ones_of vectors) (λ u h. column_at (λ (v : VectorRecord). v.ones) u h refl),
        start_plane is_at0 at0-small refl c (zeros_of vectors) (λ u h. column_at (λ (v : VectorRecord). v.zeros) u h refl),
      )

  module _ (i : ℕ) (inst : Instance) (at : InstanceAt c i inst) where
    -- the bits of a label in both planes
    pub label_ones : (w v l : ℕ) → w < 4 → v < 64
        → bit (get_or (labels_of is_at1 c i inst w) l 0) v
        ≡ is_at1 (label_values (vector_at c (64 * w + v)) (outputs_at c i (64 * w + v)) inst l)
    unfolding is_at1
    label_ones = label_bit is_at1 at1-small refl c i inst at

    pub label_zeros : (w v l : ℕ) → w < 4 → v < 64
        → bit (get_or (labels_of is_at0 c i inst w) l 0) v
        ≡ is_at0 (label_values (vector_at c (64 * w + v)) (outputs_at c i (64 * w + v)) inst l)
    unfolding is_at0
    label_zeros = label_bit is_at0 at0-small refl c i inst at

    -- so both planes hold the labels' values
    pub labels_hold : (w v : ℕ) → w < 4 → v < 64
        → PlanesHold (labels_of is_at1 c i inst w) (labels_of is_at0 c i inst w) v (label_values (vector_at c (64 * w + v)) (outputs_at c i (64 * w + v)) inst)
    labels_hold w v hw hv = record { known_1 = λ l. label_ones w v l hw hv; known_0 = λ l. label_zeros w v l hw hv }

    -- the planes of the instance's output, word by word
    module _ (plane : Value → ℕ) (column : Planes → ℕ) (column-is : (f : ℕ → Value) → column (planes f) ≡ word (λ (v : ℕ). plane (f v))) where
      output_word : (w : ℕ) → w < 4
          → let output = (type_of_instance c.types inst).output in
          column (output_planes (words_of c i inst).rails output w) ≡ word (λ (v : ℕ). plane (new_output c i inst (64 * w + v)))
      unfolding output_planes
      output_word w h =
          rw (node_at c i inst supply t.output w inside h, node_at c i inst ground t.output w inside h)
          (ap column (output-planes t (labels_of is_at1 c i inst w) (labels_of is_at0 c i inst w) values inside (λ v k. labels_hold w v h k))
          ∙ column-is (λ (v : ℕ). deciding.output_value t (values v)))
        where
          t : ModuleType
          t = type_of_instance c.types inst

          values : ℕ → ℕ → Value
          values v = label_values (vector_at c (64 * w + v)) (outputs_at c i (64 * w + v)) inst

          inside : t.output < 32
          inside = let ranges = type-ranges t (type_at c i inst at).sound in omega (arith, ranges.output_high, ranges.highest)

    pub signals_more : with_output (signals_at c i) i (words_of c i inst).rails (type_of_instance c.types inst).output
        ≡ signals_at c (suc i)
    unfolding is_at1 is_at0
    signals_more =
        cc (
          more_plane is_at1 at1-small refl c i inst at (table 4 one) (length-table 4 one)
              (λ w h. get_or-table 4 one 0 w h ∙ output_word is_at1 (λ (p : Planes). p.ones) (λ f. refl) w h),
          more_plane is_at0 at0-small refl c i inst at (table 4 nought) (length-table 4 nought)
              (λ w h. get_or-table 4 nought 0 w h ∙ output_word is_at0 (λ (p : Planes). p.zeros) (λ f. refl) w h),
        )
      where
        both : ℕ → Planes
        both = output_planes (words_of c i inst).rails (type_of_instance c.types inst).output

        one : ℕ → ℕ
        one w = (both w).ones

        nought : ℕ → ℕ
        nought w = (both w).zeros
