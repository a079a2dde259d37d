-- The place of a signal, and the planes of labels as the code fills them, label by label. Assumes nothing.
use mathlib.Core.Path.{◌≡◌, sym, ap₂, ◌∙◌}
use mathlib.Core.Bool.{Bool, true, false}
use mathlib.Core.List.{List}
use Prim.Native.Nat.{ℕ, ◌+◌, ◌-◌, ◌*◌, ◌/◌, ◌%◌, ◌≤◌, ◌<◌}
use native.Mathlib.Decide.{dec_lt}
use native.Mathlib.Omega.{arith}
use borrow.Rule.Slice.PartMut.{put_mid}
use lib.ListN.{length, get_or, drop}
use lib.Seq.{get_or-take, get_or-drop}
use Rattle.std.specs.List.{between}
use Rattle.words.specs.Each.{four_each}
use Rattle.words.specs.Tables.{table, up_to}
use Rattle.words.proofs.Tables.{get_or-table, table_cong, up-below, up-past}
use Rattle.circuit.specs.Records.{unused_reference}
use Rattle.circuit.specs.declared.Reference.{Reference as ReferenceRecord}
use Rattle.grade_inputs.specs.declared.Signals.{Signals}
use Rattle.grade_marks.specs.declared.labels.LabelPlanes.{LabelPlanes}
use Rattle.grade_marks.proofs.Parts.{part_fills}
use Rattle.grade_marks.specs.Model.{place_of_signal, signal_of, label_words, label_plane, label_planes}

-- ---- the place of a signal

pub signal_in : (earlier : Bool) (number : ℕ) → 1 ≤ number → number ≤ 128 → place_of_signal earlier number < 192
unfolding place_of_signal
signal_in true number some most = omega arith
signal_in false number some most = omega arith

-- ---- the planes of labels, as they are filled

-- the word at place j, of the label at j / 4
unfoldable pub plane_at : List ReferenceRecord → List ℕ → ℕ → ℕ
plane_at references signals j = get_or signals (4 * signal_of (get_or references (j / 4) unused_reference) + j % 4) 0

-- those of k labels are the first 4 k words, and 0 in the others
pub plane-is : (references : List ReferenceRecord) (signals : List ℕ)
    → table 48 (up_to (4 * length references) (plane_at references signals)) ≡ label_plane references signals
unfolding label_plane label_words four_each plane_at
plane-is references signals = table_cong 48 (up_to (4 * k) (plane_at references signals)) meant (λ j h. at j h (dec_lt (j / 4) k))
  where
    k : ℕ
    k = length references

    word_of : ℕ → ℕ → ℕ
    word_of w l = get_or signals (4 * signal_of (get_or references l unused_reference) + w) 0

    meant : ℕ → ℕ
    meant j = get_or (table 12 (up_to k (word_of (j % 4)))) (j / 4) 0

    at : (j : ℕ) → j < 48 → Dec (j / 4 < k) → up_to (4 * k) (plane_at references signals) j ≡ meant j
    at j h (yes q) =
        up-below (4 * k) (plane_at references signals) j (omega arith)
        ∙ sym (get_or-table 12 (up_to k (word_of (j % 4))) 0 (j / 4) (omega arith) ∙ up-below k (word_of (j % 4)) (j / 4) q)
    at j h (no q) =
        up-past (4 * k) (plane_at references signals) j (omega arith)
        ∙ sym (get_or-table 12 (up_to k (word_of (j % 4))) 0 (j / 4) (omega arith) ∙ up-past k (word_of (j % 4)) (j / 4) (omega arith))

abbrev labels_with : List ℕ → List ℕ → LabelPlanes
labels_with ones zeros = record { ones = ones; zeros = zeros }

-- so planes filled with the first k labels, where there are no more, are those of all
pub planes-are : (references : List ReferenceRecord) (signals : Signals) (labels : LabelPlanes) (k : ℕ) → k ≡ length references
    → labels.ones ≡ table 48 (up_to (4 * k) (plane_at references signals.ones))
    → labels.zeros ≡ table 48 (up_to (4 * k) (plane_at references signals.zeros))
    → labels ≡ label_planes references signals
planes-are references signals labels k all ones zeros =
    ap₂ labels_with
    ((rw all at ones) ∙ plane-is references signals.ones) ((rw all at zeros) ∙ plane-is references signals.zeros)

-- one label more: its words copied from its signal's
pub plane_more : (references : List ReferenceRecord) (signals plane text : List ℕ) (l at : ℕ) → l < 12
    → plane ≡ table 48 (up_to (4 * l) (plane_at references signals))
    → at ≡ signal_of (get_or references l unused_reference) → at < 192 → text ≡ between (4 * at) (4 * at + 4) signals → length text ≡ 4
    → put_mid (4 * l) (4 * l + 4 - 4 * l) plane text ≡ table 48 (up_to (4 * (l + 1)) (plane_at references signals))
unfolding plane_at
plane_more references signals plane text l at few before here inside copied long =
    let four : 4 * l + 4 - 4 * l ≡ 4 = omega arith in
    let next : 4 * (l + 1) ≡ 4 * l + 4 = omega arith in
    rw (four, next)
    (part_fills plane text (4 * l) 4 long 48 (plane_at references signals) before (omega arith)
    (λ w h.
    let label : (4 * l + w) / 4 ≡ l = omega arith in
    let word : (4 * l + w) % 4 ≡ w = omega arith in
    let part : w < 4 * at + 4 - 4 * at = omega arith in
    rw (label, word, ← here, copied)
    (get_or-take (4 * at + 4 - 4 * at) (drop (4 * at) signals) w 0 part ∙ get_or-drop (4 * at) signals w 0)))
