-- Files without tag 7 are answered as they were (specs/PassTransistors, "files of before"): the grader of then reads as today's until it meets a field with tag 7,
-- which it refuses by 3, as today's never does. Assumes nothing.
use Prim.Native.Nat.{ℕ}
use mathlib.Core.Path.{◌≡◌, refl, sym, ap, ◌∙◌}
use mathlib.Core.Bool.{Bool, true, false, or-false}
use mathlib.Core.Logic.{◌⊎◌, inl, inr}
use mathlib.Core.List.{List, map}
use native.Mathlib.Omega.{arith}
use borrow.Author.Tests.{ltb-false, le-ltb}
use lib.Dec.{ltb}
use lib.ListN.{length}
use Rattle.switch.specs.Conduction.{by_position, stated}
use Rattle.circuit.specs.Limits.{most_bytes}
use Rattle.circuit.specs.Fields.{Field, Cut, clean, broken, field, cut_from}
use Rattle.circuit.specs.Circuit.{Circuit}
use Rattle.circuit.specs.Order.{Tag, inputs_tag, type_tag, edge_tag, bridge_tag, instance_tag, vector_tag, no_tag, tag_of, is_kind, is_unknown}
use Rattle.circuit.specs.Known.{Known, start, known_after}
use Rattle.circuit.specs.Table.{Verdict, passes, refused_at, first_of, body_tests, field_tests, end_tests}
use Rattle.circuit.specs.Table.{inputs_tests, type_tests, edge_tests, edge_tests_of, bridge_tests, instance_tests, instance_tests_of, vector_tests}
use Rattle.circuit.specs.Reading.{Reading, refusal, unless, read_from, reading_with, reading_of}
use Rattle.circuit.proofs.OrderLaws.{kind_is}
use Rattle.grading.specs.Buffers.{Buffers, room_of}
use Rattle.grading.specs.Grading.{grading_of, after_reading}
use Rattle.grading.specs.Promise.{number_of, place_of}
use Rattle.demands.specs.Calls.{Kept}
use Rattle.demands.specs.Graders.{called, refusal_of, refusing, outcome_of, rightly, grades_by, read_taking, taking_and_testing}
use Rattle.demands.specs.SingleTransistors.{FieldOf}
use Rattle.demands.specs.PassTransistors.{seven_unknown, tests_without_passes, without_passes, reading_without_passes, PassMet, OnlyPassesChange}
use Rattle.demands.proofs.PassTransistorsProof.{numbers_of_edges}
use Rattle.demands.proofs.GradingVerdicts.{refused-there}
use Rattle.demands.proofs.RightProof.{as_rightly}

-- ---- a field

-- no test of a body has number 3
body_kept : (f : Field) (tag : Tag) (c : Circuit) (at : ℕ) (body : List ℕ) → map (seven_unknown f) (body_tests tag c at body) ≡ body_tests tag c at body
unfolding seven_unknown body_tests inputs_tests type_tests edge_tests edge_tests_of bridge_tests instance_tests instance_tests_of vector_tests
body_kept f inputs_tag c at body = refl
body_kept f type_tag c at body = refl
body_kept f (edge_tag by_position) c at body = refl
body_kept f (edge_tag stated) c at body = refl
body_kept f bridge_tag c at body = refl
body_kept f instance_tag c at body = refl
body_kept f vector_tag c at body = refl
body_kept f no_tag c at body = refl

module _ (known : Known) (f : Field) where
  -- another field than one with tag 7 is tested alike
  tested_alike : is_kind (edge_tag stated) (tag_of f.tag) ≡ false → tests_without_passes known f ≡ field_tests known f
  unfolding field_tests seven_unknown
  tested_alike other = rw (other, or-false (is_unknown (tag_of f.tag)), body_kept f (tag_of f.tag) known.circuit f.at f.body)

  -- one with tag 7 was refused by 3
  seven_refused : tag_of f.tag ≡ edge_tag stated → first_of (tests_without_passes known f) ≡ refused_at 3 f.at
  unfolding field_tests seven_unknown first_of is_kind
  seven_refused is = rw is

-- ---- a file

-- a field with tag 7 was met, and refused by 3
abbrev MetIn : Cut → Reading → Type 0
MetIn cut r = (f : Field) × FieldOf cut f × (tag_of f.tag ≡ edge_tag stated) × (r ≡ refusal 3 f.at)

abbrev then : ℕ → Known → Cut → Reading
then = read_taking known_after tests_without_passes (end_tests true)

-- behind a field that is tested alike
later-alike : (f : Field) (rest : Cut) (v : Verdict) (was now : Reading) → (was ≡ now) ⊎ MetIn rest was
    → (unless v was ≡ unless v now) ⊎ MetIn (field f rest) (unless v was)
unfolding unless FieldOf
later-alike f rest v was now (inl same) = inl (ap (unless v) same)
later-alike f rest passes was now (inr met) = inr (met.0, inr met.1, met.2, met.3)
later-alike f rest (refused_at n p) was now (inr met) = inl refl

read_alike : (size : ℕ) (known : Known) (cut : Cut) → (then size known cut ≡ read_from true size known cut) ⊎ MetIn cut (then size known cut)
unfolding read_taking read_from FieldOf unless
read_alike size known clean = inl refl
read_alike size known (broken at) = inl refl
read_alike size known (field f rest) = go (is_kind (edge_tag stated) (tag_of f.tag)) refl (read_alike size (known_after known f) rest)
  where
    now : Reading
    now = read_from true size (known_after known f) rest

    was : Reading
    was = then size (known_after known f) rest

    go : (b : Bool) → is_kind (edge_tag stated) (tag_of f.tag) ≡ b → (was ≡ now) ⊎ MetIn rest was
        → (then size known (field f rest) ≡ read_from true size known (field f rest)) ⊎ MetIn (field f rest) (then size known (field f rest))
    go true e later =
        let is = kind_is (edge_tag stated) (tag_of f.tag) e in inr (f, inl refl, is, rw (seven_refused known f is))
    go false e later = rw (tested_alike known f e) (later-alike f rest (first_of (field_tests known f)) was now later)

-- ---- as before

as_before : (file : List ℕ) (before : Buffers) → Kept (called without_passes file before) ⊎ PassMet file
unfolding rightly grades_by grading_of reading_with taking_and_testing
as_before file before = go (ltb most_bytes (length file)) refl (read_alike (length file) start (cut_from file 0))
  where
    now : Reading
    now = read_from true (length file) start (cut_from file 0)

    -- of both only number 1 is looked at where the file is too long
    go : (b : Bool) → ltb most_bytes (length file) ≡ b → (reading_without_passes file ≡ now) ⊎ MetIn (cut_from file 0) (reading_without_passes file)
        → Kept (called without_passes file before) ⊎ PassMet file
    go true long alike = inl (as_rightly without_passes file before (rw long))
    go false short (inl same) = inl (as_rightly without_passes file before (rw (short, same)))
    go false short (inr met) = inr (record {
      short = ltb-false most_bytes (length file) short;
      met = met.0;
      its = record { among = met.1; edge = met.2 };
      refused = met.3;
    })

-- ---- what is answered otherwise

module _ (file : List ℕ) (before : Buffers) (met : PassMet file) where
  answer_was : (without_passes file before).answer ≡ refusing 3 met.met.at
  unfolding taking_and_testing outcome_of after_reading
  answer_was = rw (le-ltb most_bytes (length file) met.short, met.refused)

  changed : Kept (called without_passes file before) → ⊥
  unfolding refusing refusal_of grading_of
  changed keeps =
      numbers_of_edges.three file met.met met.its
      (refused-there 3 (omega arith) (omega arith) (reading_of file) (room_of before) met.met.at (sym (ap number_of answer_was) ∙ keeps.number) (sym (ap place_of answer_was) ∙ keeps.place))

pub only_passes_change : OnlyPassesChange
only_passes_change = record { as_before = as_before; changed = changed }
