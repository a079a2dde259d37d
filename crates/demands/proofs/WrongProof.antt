-- Each wrong grader of specs/Wrong breaks the promise on a small file: in a word, a class, a count or a refusal's number. Both sides are computed.
use Prim.Native.Nat.{ℕ}
use mathlib.Core.Path.{◌≡◌, refl, ap, subst}
use mathlib.Core.Bool.{false}
use mathlib.Core.List.{List, [], ◌∷◌, ◌++◌}
use lib.Dec.{T, eqb, eqb_refl}
use lib.ListN.{get_or, replicate}
use Rattle.switch.specs.Bridges.{nodes}
use Rattle.grading.specs.Buffers.{Buffers, buffers_of, room_of}
use Rattle.grading.specs.Grading.{Counts, Grading, grading_of, counts_in, number_in, buffers_after}
use Rattle.grading.specs.Promise as promise
use Rattle.grading.specs.Promise.{is_graded}
use Rattle.demands.specs.Files.{inverter, inverter_under, inverter_listed, nand_listed, nand_of_one, one_listed, nand3_fields, split_rails, driver_and_input, two_nands, twin_nands}
use Rattle.demands.specs.Graders.{Grader, MeetsPromise}
use Rattle.demands.specs.Wrong.{refuses_every, without, skips, marks_all, marks_never, leaves_matrix, first_word_only, invents_found}
use Rattle.demands.specs.Wrong.{label_marked, marked_by, lower_node, put_in, in_node_order, handed_on, swept, sweeps_once, is_one, unlike, one_plane_marked, one_plane}
use Rattle.demands.specs.Wrong.{is_zero, same_level, unequal_ends, marks_floating, rows_found, counts_rows, packed63, spills, packed_first, wraps, goes_on}
use Rattle.demands.specs.Wrong.{changes_output, watches_outputs, held, row_values_at, level_at, held_level, held_marked, holds_levels}
use Rattle.demands.specs.Wrong.{same_as_written, counts_twice, same_label_too, counts_labels, zero_for_x, zeroed, reads_x_as_zero, keeps_apart, without_instance, mixes_inner, input_of_instance, splits_inputs, clearing_next, writes_past, clears_first}
use Rattle.demands.specs.Wrong.{RefusesEveryIsWrong, SkipsNineIsWrong, SkipsFourteenIsWrong, MarksAllIsWrong, MarksNeverIsWrong, LeavesMatrixIsWrong, FirstWordOnlyIsWrong, InventsFoundIsWrong}
use Rattle.demands.specs.Wrong.{SweepsOnceIsWrong, OnePlaneIsWrong, MarksFloatingIsWrong, CountsRowsIsWrong, SpillsIsWrong, WrapsIsWrong, GoesOnIsWrong}
use Rattle.demands.specs.Wrong.{WatchesOutputsIsWrong, HoldsLevelsIsWrong, CountsTwiceIsWrong, CountsLabelsIsWrong, ReadsXAsZeroIsWrong, KeepsApartIsWrong, MixesInnerIsWrong, SplitsInputsIsWrong, WritesPastIsWrong, ClearsFirstIsWrong}
use Rattle.demands.proofs.Computing.{grader_computing, blank}

-- what the wrong graders compute with
unfoldable pub wrong_computing : Unit {0}
unfolding grader_computing
    refuses_every without marks_all marks_never leaves_matrix first_word_only invents_found
    label_marked marked_by lower_node put_in in_node_order handed_on swept sweeps_once is_one unlike one_plane_marked one_plane
    is_zero same_level unequal_ends marks_floating rows_found counts_rows packed63 spills packed_first wraps goes_on
    changes_output watches_outputs held row_values_at level_at held_level held_marked holds_levels
    same_as_written counts_twice same_label_too counts_labels zero_for_x zeroed reads_x_as_zero keeps_apart without_instance mixes_inner input_of_instance splits_inputs clearing_next writes_past clears_first
wrong_computing = tt

-- ---- where an outcome differs from the promise, the promise is not met

abbrev meant : List ℕ → Grading
meant file = grading_of file (room_of blank)

abbrev pub Differ : ℕ → ℕ → Type 0
Differ a b = eqb a b ≡ false

pub apart : (a b : ℕ) → Differ a b → a ≡ b → ⊥
apart a b differ e = subst T differ (subst (λ (n : ℕ). T (eqb a n)) e (eqb_refl a))

abbrev pub NumberDiffers : Grader → List ℕ → Type 0
NumberDiffers grader file = Differ (promise.number_of (grader file blank).answer) (number_in (meant file))

-- in buffers that held these numbers
abbrev pub WordDiffersIn : Buffers → Grader → List ℕ → ℕ → Type 0
WordDiffersIn before grader file i =
    Differ (get_or (grader file before).after.matrix i 0) (get_or (buffers_after (grading_of file (room_of before)) before).matrix i 0)

abbrev pub WordDiffers : Grader → List ℕ → ℕ → Type 0
WordDiffers = WordDiffersIn blank

abbrev ClassDiffers : Grader → List ℕ → ℕ → Type 0
ClassDiffers grader file i = Differ (get_or (grader file blank).after.classes i 0) (get_or (buffers_after (meant file) blank).classes i 0)

abbrev FoundDiffers : Grader → List ℕ → Type 0
FoundDiffers grader file = Differ (promise.counts_of (grader file blank).answer).found (counts_in (meant file)).found

pub by_number : (grader : Grader) (file : List ℕ) → NumberDiffers grader file → MeetsPromise grader → ⊥
by_number grader file differ meets = apart _ _ differ (meets file blank).number

pub by_word : (before : Buffers) (grader : Grader) (file : List ℕ) (i : ℕ) → WordDiffersIn before grader file i → MeetsPromise grader → ⊥
by_word before grader file i differ meets = apart _ _ differ (ap (λ (buffers : Buffers). get_or buffers.matrix i 0) (meets file before).buffers_at_exit)

by-class : (grader : Grader) (file : List ℕ) (i : ℕ) → ClassDiffers grader file i → MeetsPromise grader → ⊥
by-class grader file i differ meets = apart _ _ differ (ap (λ (buffers : Buffers). get_or buffers.classes i 0) (meets file blank).buffers_at_exit)

by_found : (grader : Grader) (file : List ℕ) → FoundDiffers grader file → MeetsPromise grader → ⊥
by_found grader file differ meets = apart _ _ differ (ap (λ (counts : Counts). counts.found) (meets file blank).counts)

-- ---- the files, and a matrix that is not zeros

abbrev pub ones : Buffers
ones = buffers_of (replicate 64 1) (replicate 16 0)

-- 65 vectors, one row that is always marked
abbrev pub many : List ℕ
many = inverter_listed (nodes 0 1 ∷ []) (replicate 65 "0")

-- 65 vectors, one row that the last alone marks
abbrev pub last_only : List ℕ
last_only = inverter_listed (nodes 0 2 ∷ []) (replicate 64 "1" ++ ("0" ∷ []))

-- one short, listed from both ends
abbrev pub listed_twice : List ℕ
listed_twice = inverter_listed (nodes 0 2 ∷ nodes 2 0 ∷ []) ("0" ∷ [])

-- ---- what is computed

-- the rows of the inverter are 0-1, 0-2, 1-2, then node 0, 1, 2 with the label
record Computed : Type 0 where
  refuses_every_lem : NumberDiffers refuses_every inverter
  skips_9 : NumberDiffers (skips 9) split_rails
  skips_14 : NumberDiffers (skips 14) (inverter_under [])
  marks_all_lem : WordDiffers marks_all inverter 4
  marks_never_lem : WordDiffers marks_never inverter 0
  leaves_matrix_lem : WordDiffers leaves_matrix inverter 0
  first_word_only_lem : WordDiffers first_word_only many 1
  invents_found_lem : FoundDiffers invents_found (inverter_under ("X" ∷ []))
  -- all three on: node 2 is joined to ground through 3 and 4, so 1-2 is marked; in node order 2-3 comes before 3-4, which feeds it
  sweeps_once_lem : WordDiffers sweeps_once (one_listed 3 nand3_fields (nodes 1 2 ∷ []) ("111" ∷ [])) 0
  -- the label at X, node 1
  one_plane_lem : WordDiffers one_plane inverter 16
  -- under 00 node 3 floats
  marks_floating_lem : WordDiffers marks_floating (nand_listed (nodes 2 3 ∷ []) ("00" ∷ [])) 0
  counts_rows_lem : FoundDiffers counts_rows listed_twice
  spills_63 : WordDiffers spills many 0
  wraps_65 : WordDiffers wraps last_only 0
  goes_on_lem : WordDiffers goes_on inverter 0
  -- under 01 a leak runs from supply over 1-3 to ground, and the output stays 1
  watches_outputs_lem : WordDiffers watches_outputs (nand_listed (nodes 1 3 ∷ []) ("01" ∷ [])) 0
  -- under 01 node 3 is joined to ground, under 00 it floats
  holds_levels_lem : WordDiffers holds_levels (nand_listed (nodes 2 3 ∷ []) ("01" ∷ "00" ∷ [])) 0
  counts_twice_lem : ClassDiffers counts_twice listed_twice 1
  -- node 0 with label 0, then with label 1: rows 6 and 7
  counts_labels_lem : ClassDiffers counts_labels (nand_of_one ("0" ∷ [])) 7
  reads_x_as_zero_lem : WordDiffers reads_x_as_zero inverter 4
  -- the second row names the first's wires; the second NAND's node 3 is not the first's
  keeps_apart_lem : ClassDiffers keeps_apart (driver_and_input ("0" ∷ [])) 1
  mixes_inner_lem : ClassDiffers mixes_inner (two_nands ("00" ∷ [])) 1
  -- the sixth row is the third again
  splits_inputs_lem : ClassDiffers splits_inputs (twin_nands ("00" ∷ [])) 5
  -- the inverter has 24 words
  writes_past_lem : WordDiffersIn ones writes_past inverter 24
  clears_first_lem : WordDiffersIn ones clears_first [] 0

computed : Computed
unfolding wrong_computing
computed = record {
  refuses_every_lem = refl;
  skips_9 = refl;
  skips_14 = refl;
  marks_all_lem = refl;
  marks_never_lem = refl;
  leaves_matrix_lem = refl;
  first_word_only_lem = refl;
  invents_found_lem = refl;
  sweeps_once_lem = refl;
  one_plane_lem = refl;
  marks_floating_lem = refl;
  counts_rows_lem = refl;
  spills_63 = refl;
  wraps_65 = refl;
  goes_on_lem = refl;
  watches_outputs_lem = refl;
  holds_levels_lem = refl;
  counts_twice_lem = refl;
  counts_labels_lem = refl;
  reads_x_as_zero_lem = refl;
  keeps_apart_lem = refl;
  mixes_inner_lem = refl;
  splits_inputs_lem = refl;
  writes_past_lem = refl;
  clears_first_lem = refl;
}

-- ---- so each is wrong

pub refuses_every_is_wrong : RefusesEveryIsWrong
refuses_every_is_wrong = by_number _ _ computed.refuses_every_lem

pub skips_nine_is_wrong : SkipsNineIsWrong
skips_nine_is_wrong = by_number _ _ computed.skips_9

pub skips_fourteen_is_wrong : SkipsFourteenIsWrong
skips_fourteen_is_wrong = by_number _ _ computed.skips_14

pub marks_all_is_wrong : MarksAllIsWrong
marks_all_is_wrong = by_word blank _ _ _ computed.marks_all_lem

pub marks_never_is_wrong : MarksNeverIsWrong
marks_never_is_wrong = by_word blank _ _ _ computed.marks_never_lem

pub leaves_matrix_is_wrong : LeavesMatrixIsWrong
leaves_matrix_is_wrong = by_word blank _ _ _ computed.leaves_matrix_lem

pub first_word_only_is_wrong : FirstWordOnlyIsWrong
first_word_only_is_wrong = by_word blank _ _ _ computed.first_word_only_lem

pub invents_found_is_wrong : InventsFoundIsWrong
invents_found_is_wrong = by_found _ _ computed.invents_found_lem

pub sweeps_once_is_wrong : SweepsOnceIsWrong
sweeps_once_is_wrong = by_word blank _ _ _ computed.sweeps_once_lem

pub one_plane_is_wrong : OnePlaneIsWrong
one_plane_is_wrong = by_word blank _ _ _ computed.one_plane_lem

pub marks_floating_is_wrong : MarksFloatingIsWrong
marks_floating_is_wrong = by_word blank _ _ _ computed.marks_floating_lem

pub counts_rows_is_wrong : CountsRowsIsWrong
counts_rows_is_wrong = by_found _ _ computed.counts_rows_lem

pub spills_is_wrong : SpillsIsWrong
spills_is_wrong = by_word blank _ _ _ computed.spills_63

pub wraps_is_wrong : WrapsIsWrong
wraps_is_wrong = by_word blank _ _ _ computed.wraps_65

pub goes_on_is_wrong : GoesOnIsWrong
goes_on_is_wrong = by_word blank _ _ _ computed.goes_on_lem

pub watches_outputs_is_wrong : WatchesOutputsIsWrong
watches_outputs_is_wrong = by_word blank _ _ _ computed.watches_outputs_lem

pub holds_levels_is_wrong : HoldsLevelsIsWrong
holds_levels_is_wrong = by_word blank _ _ _ computed.holds_levels_lem

pub counts_twice_is_wrong : CountsTwiceIsWrong
counts_twice_is_wrong = by-class _ _ _ computed.counts_twice_lem

pub counts_labels_is_wrong : CountsLabelsIsWrong
counts_labels_is_wrong = by-class _ _ _ computed.counts_labels_lem

pub keeps_apart_is_wrong : KeepsApartIsWrong
keeps_apart_is_wrong = by-class _ _ _ computed.keeps_apart_lem

pub mixes_inner_is_wrong : MixesInnerIsWrong
mixes_inner_is_wrong = by-class _ _ _ computed.mixes_inner_lem

pub splits_inputs_is_wrong : SplitsInputsIsWrong
splits_inputs_is_wrong = by-class _ _ _ computed.splits_inputs_lem

pub reads_x_as_zero_is_wrong : ReadsXAsZeroIsWrong
reads_x_as_zero_is_wrong = by_word blank _ _ _ computed.reads_x_as_zero_lem

pub writes_past_is_wrong : WritesPastIsWrong
writes_past_is_wrong = by_word ones _ _ _ computed.writes_past_lem

pub clears_first_is_wrong : ClearsFirstIsWrong
clears_first_is_wrong = by_word ones _ _ _ computed.clears_first_lem
