-- Every file is answered as it was by groups, but where a limit of before was passed that is not one today (specs/SingleTransistors): both read alike (GroupsRead),
-- and what both accept they grade alike (GroupsGrade). The files named there are answered otherwise, since today's refusal has another number or place. Assumes nothing.
use Prim.Native.Nat.{ℕ, ◌*◌, ◌<◌, ◌≤◌}
use mathlib.Core.Path.{◌≡◌, refl, sym, ap, subst, ◌∙◌}
use mathlib.Core.Bool.{Bool, true, false, cond}
use mathlib.Core.Logic.{◌⊎◌, inl, inr}
use mathlib.Core.List.{List, [], ◌∷◌}
use native.Mathlib.Omega.{arith}
use borrow.Author.Rules.{rules}
use borrow.Author.Tests.{ltb-true, ltb-false, lt-ltb, le-ltb, eqb-true, eqb-false}
use lib.Dec.{eqb, ltb}
use lib.ListN.{length}
use Rattle.switch.specs.Conduction.{EdgeTag, by_position, stated}
use Rattle.switch.specs.Grouped.{Group}
use Rattle.circuit.specs.Limits.{most_bytes}
use Rattle.circuit.specs.Fields.{Field, Cut, clean, broken, field, cut_from}
use Rattle.circuit.specs.Circuit.{Circuit}
use Rattle.circuit.specs.Order.{Tag, inputs_tag, type_tag, edge_tag, bridge_tag, instance_tag, vector_tag, no_tag, tag_of}
use Rattle.circuit.specs.Known.{Known, start, known_after, latest}
use Rattle.circuit.specs.Table.{Test, refused_at, first_of, body_tests, field_tests, end_tests}
use Rattle.circuit.specs.Table.{inputs_tests, type_tests, edge_tests, edge_tests_of, bridge_tests, instance_tests, instance_tests_of, vector_tests}
use Rattle.circuit.specs.Reading.{Reading, accepted, refusal, unless, read_from, reading_with, reading_of}
use Rattle.grading.specs.Buffers.{Buffers, Room, room_of}
use Rattle.grading.specs.Rows.{rows_of}
use Rattle.grading.specs.Grading.{graded, refused, grading_of, grading_of_circuit, after_reading, number_in, place_in}
use Rattle.grading.specs.Promise.{number_of, place_of}
use Rattle.demands.specs.Calls.{Kept}
use Rattle.demands.specs.Graders.{called, refusal_of, refusing, outcome_of, right_work, rightly, grades_by}
use Rattle.demands.specs.SingleTransistors.{bytes_before, latest_groups, groups_start, GroupsReading, accepted_with, refused_with, groups_read_from, groups_reading, groups_work}
use Rattle.demands.specs.SingleTransistors.{groups_outcome, groupwise, EdgeFieldOf, Changed, longer, more_edges, pass_field_lem, AnsweredAsBefore, AcceptedAsBefore}
use Rattle.demands.proofs.GroupsGrade.{Aligned, work-alike}
use Rattle.demands.proofs.GroupsRead.{number_then, Along, ReadAlike, RefusedThen, read_alike}
use Rattle.demands.proofs.PassTransistorsProof.{numbers_of_edges}
use Rattle.demands.proofs.GradingVerdicts.{graded-number, refused-there}
use Rattle.demands.proofs.RightProof.{as_rightly}

-- ---- what is read alike is answered alike

-- a grading that gives one circuit, if any
graded-alike : (c : Circuit) (groups : List (List Group)) → Aligned c.types groups → (room : Room) (before : Buffers)
    → outcome_of right_work (grading_of_circuit c room) before ≡ outcome_of (groups_work groups) (grading_of_circuit c room) before
unfolding grading_of_circuit outcome_of
graded-alike c groups aligned room before = go (ltb room.words (4 * length (rows_of c))) (ltb room.entries (length (rows_of c)))
  where
    go : (a b : Bool) → let g = cond a (refused 15 (4 * length (rows_of c))) (cond b (refused 22 (length (rows_of c))) (graded c)) in
        outcome_of right_work g before ≡ outcome_of (groups_work groups) g before
    go true b = refl
    go false true = refl
    go false false = rw (work-alike c groups aligned)

answered-alike : (r : Reading) (g : GroupsReading) → ReadAlike r g → (before : Buffers) → outcome_of right_work (after_reading r (room_of before)) before ≡ groups_outcome g before
unfolding ReadAlike after_reading groups_outcome outcome_of
answered-alike (accepted c) (accepted_with d groups) alike before = rw alike.0 (graded-alike d groups alike.1 (room_of before) before)
answered-alike (accepted c) (refused_with n p) alike before = absurd alike
answered-alike (refusal n p) (accepted_with d groups) alike before = absurd alike
answered-alike (refusal n p) (refused_with m q) alike before = rw (alike.0, alike.1)

-- ---- the two readings of a file

nothing_known : Along [] []
unfolding latest latest_groups
nothing_known = record { aligned = refl; few = omega arith }

abbrev today : List ℕ → Reading
today file = read_from true (length file) start (cut_from file 0)

abbrev then : List ℕ → GroupsReading
then file = groups_read_from (length file) groups_start (cut_from file 0)

today-is : (file : List ℕ) → length file ≤ most_bytes → reading_of file ≡ today file
unfolding reading_with
today-is file fits = rw (le-ltb most_bytes (length file) fits)

then_is : (file : List ℕ) → ltb bytes_before (length file) ≡ false → groups_reading file ≡ then file
unfolding groups_reading
then_is file short = rw short

both_read : (file : List ℕ) → ReadAlike (today file) (then file) ⊎ RefusedThen (cut_from file 0) (then file)
both_read file = read_alike (length file) groups_start nothing_known (cut_from file 0)

within : (file : List ℕ) → ltb bytes_before (length file) ≡ false → length file ≤ most_bytes
within file short = omega (arith, ltb-false bytes_before (length file) short)

-- ---- as before

-- the number and the place of a reading, 0 and 0 where it is accepted
number : Reading → ℕ
number (accepted c) = 0
number (refusal n p) = n

place : Reading → ℕ
place (accepted c) = 0
place (refusal n p) = p

-- a reading is a refusal by 6 at this place, or not
is_six : (r : Reading) (p : ℕ) → ReadAlike r (refused_with 6 p) ⊎ (r ≡ refusal 6 p → ⊥)
unfolding ReadAlike number place
is_six (accepted c) p = inr (λ e. let n : ◌≡◌ {A = ℕ} 0 6 = ap number e in absurd (omega arith))
is_six (refusal n q) p = go (eqb n 6) (eqb q p) refl refl
  where
    go : (a b : Bool) → eqb n 6 ≡ a → eqb q p ≡ b → ((n ≡ 6) × (q ≡ p)) ⊎ (refusal n q ≡ refusal 6 p → ⊥)
    go true true d e = inl (eqb-true n 6 d, eqb-true q p e)
    go true false d e = inr (λ same. eqb-false q p e (ap place same))
    go false b d e = inr (λ same. eqb-false n 6 d (ap number same))

module _ (file : List ℕ) (before : Buffers) where
  abbrev AsBefore : Type 0
  AsBefore = Kept (called groupwise file before) ⊎ Changed file

  -- no limit of before is passed by the file's length
  module _ (short : ltb bytes_before (length file) ≡ false) where
    read_kept : ReadAlike (today file) (then file) → Kept (called groupwise file before)
    unfolding rightly grades_by grading_of groupwise
    read_kept alike =
        as_rightly groupwise file before
        (ap (λ (r : Reading). outcome_of right_work (after_reading r (room_of before)) before) (today-is file (within file short))
        ∙ answered-alike (today file) (then file) alike before
        ∙ ap (λ (g : GroupsReading). groups_outcome g before) (sym (then_is file short)))

    one_too_many : (f : Field) → EdgeFieldOf file by_position f → then file ≡ refused_with 6 f.at → AsBefore
    one_too_many f its was = told (is_six (today file) f.at)
      where
        told : ReadAlike (today file) (refused_with 6 f.at) ⊎ (today file ≡ refusal 6 f.at → ⊥) → AsBefore
        told (inl alike) = inl (read_kept (subst (ReadAlike (today file)) (sym was) alike))
        told (inr other) = inr (more_edges f its (then_is file short ∙ was) (λ e. other (sym (today-is file (within file short)) ∙ e)))

    by_tag : (f : Field) (tag : EdgeTag) → EdgeFieldOf file tag f → then file ≡ refused_with (number_then tag) f.at → AsBefore
    by_tag f by_position its was = one_too_many f its was
    by_tag f stated its was = inr (pass_field_lem f its (then_is file short ∙ was))

    short_file : ReadAlike (today file) (then file) ⊎ RefusedThen (cut_from file 0) (then file) → AsBefore
    short_file (inl alike) = inl (read_kept alike)
    short_file (inr (f, tag, among, edge, was)) = by_tag f tag (record { among = among; edge = edge }) was

  long_file : ltb bytes_before (length file) ≡ true → (b : Bool) → ltb most_bytes (length file) ≡ b → AsBefore
  unfolding rightly grades_by grading_of after_reading outcome_of reading_with groupwise groups_reading groups_outcome
  long_file long true e = inl (as_rightly groupwise file before (rw (e, long)))
  long_file long false e = inr (longer (ltb-true bytes_before (length file) long) (ltb-false most_bytes (length file) e))

as_before : (file : List ℕ) (before : Buffers) → AsBefore file before
as_before file before = go (ltb bytes_before (length file)) refl
  where
    go : (b : Bool) → ltb bytes_before (length file) ≡ b → AsBefore file before
    go true e = long_file file before e (ltb most_bytes (length file)) refl
    go false e = short_file file before e (both_read file)

-- ---- what was accepted

was-refused : GroupsReading → ℕ
was-refused (accepted_with c groups) = 0
was-refused (refused_with n p) = 1

never_both : (c : Circuit) (groups : List (List Group)) (n p : ℕ) → accepted_with c groups ≡ refused_with n p → ⊥
unfolding was-refused
never_both c groups n p e = let z : ◌≡◌ {A = ℕ} 0 1 = ap was-refused e in absurd (omega arith)

accepted-alike : (r : Reading) (c : Circuit) (groups : List (List Group)) → ReadAlike r (accepted_with c groups) → (r ≡ accepted c) × Aligned c.types groups
unfolding ReadAlike
accepted-alike (accepted d) c groups alike = (ap accepted alike.0, alike.1)
accepted-alike (refusal n p) c groups alike = absurd alike

module _ (file : List ℕ) (c : Circuit) (groups : List (List Group)) (e : groups_reading file ≡ accepted_with c groups) where
  long_refused : ltb bytes_before (length file) ≡ true → ⊥
  unfolding groups_reading
  long_refused long = never_both c groups 1 0 (sym e ∙ rw long)

  short_accepted : ltb bytes_before (length file) ≡ false → ReadAlike (today file) (then file) ⊎ RefusedThen (cut_from file 0) (then file)
      → (reading_of file ≡ accepted c) × Aligned c.types groups
  short_accepted short (inl alike) =
      let its = accepted-alike (today file) c groups (subst (ReadAlike (today file)) (sym (then_is file short) ∙ e) alike) in
      (today-is file (within file short) ∙ its.0, its.1)
  short_accepted short (inr (f, tag, among, edge, was)) = absurd (never_both c groups (number_then tag) f.at (sym e ∙ then_is file short ∙ was))

pub accepted_as_before : AcceptedAsBefore
accepted_as_before file c groups e = go (ltb bytes_before (length file)) refl
  where
    go : (b : Bool) → ltb bytes_before (length file) ≡ b → (reading_of file ≡ accepted c) × Aligned c.types groups
    go true long = absurd (long_refused file c groups e long)
    go false short = short_accepted file c groups e short (both_read file)

-- ---- what is answered otherwise

-- no test but that of the length has number 1
AllTwo : List Test → Type 0
AllTwo [] = Unit {0}
AllTwo (t ∷ ts) = (2 ≤ t.number) × AllTwo ts

two-body : (tag : Tag) (c : Circuit) (at : ℕ) (body : List ℕ) → AllTwo (body_tests tag c at body)
unfolding AllTwo body_tests inputs_tests type_tests edge_tests edge_tests_of bridge_tests instance_tests instance_tests_of vector_tests
two-body inputs_tag c at body = search rules
two-body type_tag c at body = search rules
two-body (edge_tag by_position) c at body = search rules
two-body (edge_tag stated) c at body = search rules
two-body bridge_tag c at body = search rules
two-body instance_tag c at body = search rules
two-body vector_tag c at body = search rules
two-body no_tag c at body = tt

two-field : (known : Known) (f : Field) → AllTwo (field_tests known f)
unfolding AllTwo field_tests
two-field known f = (omega arith, (omega arith, (omega arith, two-body (tag_of f.tag) known.circuit f.at f.body)))

two-end : (known : Known) (size : ℕ) → AllTwo (end_tests true known size)
unfolding AllTwo end_tests
two-end known size = search rules

Past : Reading → Type 0
Past (accepted c) = Unit {0}
Past (refusal n p) = 2 ≤ n

by_tests : (ts : List Test) → AllTwo ts → (r : Reading) → Past r → Past (unless (first_of ts) r)
unfolding AllTwo first_of unless Past
by_tests [] all r later = later
by_tests (t ∷ ts) all r later = go t.refuses (by_tests ts all.1 r later)
  where
    go : (b : Bool) → Past (unless (first_of ts) r) → Past (unless (cond b (refused_at t.number t.place) (first_of ts)) r)
    go true rest = all.0
    go false rest = rest

past_one : (size : ℕ) (known : Known) (cut : Cut) → Past (read_from true size known cut)
unfolding read_from Past
past_one size known clean = by_tests (end_tests true known size) (two-end known size) (accepted known.circuit) tt
past_one size known (broken at) = omega arith
past_one size known (field f rest) = by_tests (field_tests known f) (two-field known f) _ (past_one size (known_after known f) rest)

not_one : (r : Reading) (room : Room) → Past r → 1 ≡ number_in (after_reading r room) → ⊥
unfolding Past after_reading number_in
not_one (accepted c) room past e = graded-number c room 1 (omega arith) (omega arith) e
not_one (refusal n p) room past e = absurd (omega arith)

module _ (file : List ℕ) (before : Buffers) (keeps : Kept (called groupwise file before)) where
  -- the refusal of before, told by today's grading
  module _ (n p : ℕ) (was : groups_reading file ≡ refused_with n p) where
    answer_was : (groupwise file before).answer ≡ refusing n p
    unfolding groupwise groups_outcome
    answer_was = ap (λ (g : GroupsReading). (groups_outcome g before).answer) was

    number_now : number_of (refusing n p) ≡ number_in (after_reading (reading_of file) (room_of before))
    unfolding grading_of
    number_now = sym (ap number_of answer_was) ∙ keeps.number

    place_now : place_of (refusing n p) ≡ place_in (after_reading (reading_of file) (room_of before))
    unfolding grading_of
    place_now = sym (ap place_of answer_was) ∙ keeps.place

  long_changes : bytes_before < length file → length file ≤ most_bytes → ⊥
  unfolding groups_reading refusing refusal_of
  long_changes long short =
      not_one (today file) (room_of before) (past_one (length file) start (cut_from file 0))
      (number_now 1 0 (rw (lt-ltb bytes_before (length file) long))
      ∙ ap (λ (r : Reading). number_in (after_reading r (room_of before))) (today-is file short))

  six_changes : (p : ℕ) → groups_reading file ≡ refused_with 6 p → (reading_of file ≡ refusal 6 p → ⊥) → ⊥
  unfolding refusing refusal_of
  six_changes p was other = other (refused-there 6 (omega arith) (omega arith) (reading_of file) (room_of before) p (number_now 6 p was) (place_now 6 p was))

  -- no field with tag 7 is refused by 3 today
  three_changes : (f : Field) → EdgeFieldOf file stated f → groups_reading file ≡ refused_with 3 f.at → ⊥
  unfolding refusing refusal_of
  three_changes f its was =
      numbers_of_edges.three file f its
      (refused-there 3 (omega arith) (omega arith) (reading_of file) (room_of before) f.at (number_now 3 f.at was) (place_now 3 f.at was))

changed : (file : List ℕ) (before : Buffers) → Changed file → Kept (called groupwise file before) → ⊥
changed file before (longer long short) keeps = long_changes file before keeps long short
changed file before (more_edges f its was other) keeps = six_changes file before keeps f.at was other
changed file before (pass_field_lem f its was) keeps = three_changes file before keeps f its was

pub answered_as_before : AnsweredAsBefore
answered_as_before = record { as_before = as_before; changed = changed }
