-- Demand 1 holds of every call that answers by the table, so of every call that keeps the promise of `grade`; and after a grading everything past the answer is as it was.
use Prim.Native.Nat.{ℕ, ◌*◌, ◌≤◌}
use mathlib.Core.Path.{◌≡◌, refl, sym, ap, ap₂, ◌∙◌}
use mathlib.Core.Bool.{Bool, true, false, cond}
use mathlib.Core.Logic.{◌⊎◌, inl, inr, ◌↔◌}
use mathlib.Core.List.{List}
use native.Mathlib.Omega.{arith}
use borrow.Author.Tests.{le-ltb, ltb-false}
use lib.Dec.{T, ltb}
use lib.ListN.{length, drop, length-append, length-drop}
use lib.Seq.{drop_at}
use Rattle.std.specs.Prelude.{Ok, Err}
use Rattle.switch.specs.Modules.{all_of}
use Rattle.circuit.specs.Circuit.{Circuit}
use Rattle.circuit.specs.Table.{passes, refused_at, first_of}
use Rattle.circuit.specs.Reading.{Reading, accepted, refusal, reading_of}
use Rattle.circuit.specs.Refusals.{refusal_number, refusal_place}
use Rattle.circuit.proofs.Tested.{never-passes}
use Rattle.grading.specs.Buffers.{Buffers, Room, room_for, room_of}
use Rattle.grading.specs.Rows.{rows_of, matrix_of}
use Rattle.grading.specs.Classes.{same_class, classes_of}
use Rattle.grading.specs.Grading.{Grading, graded, no_counts, grading_of, grading_of_circuit, after_reading, over, buffers_after}
use Rattle.grading.specs.Grading.{refused}
use Rattle.grading.specs.Promise.{Answer, is_graded, counts_of}
use Rattle.grading.specs.declared.Ungraded.TheVariants.{Refused, ShortMatrix, ShortClasses}
use Rattle.grading.proofs.ClassLists.{length_classes}
use Rattle.grading.proofs.MatrixLaws.{length_matrix}
use Rattle.demands.specs.Calls.{Call, Kept, Accepts, Refuses}
use Rattle.demands.specs.One.{passed, FirstApplying, table_for, AnswerFits, One, OneHolds, RestKept, GradingKeepsTheRest}
use Rattle.demands.proofs.Gave.{Gave, gave}
use Rattle.demands.proofs.Verdicts.{none-applies, first-applying}
use Rattle.demands.proofs.GradingVerdicts.{verdict_in, table-tells, answered, graded-is, refuses-is, answer-is}

graded_or_refused : (answer : Answer) → T (is_graded answer) ⊎ ((number : ℕ) × (place : ℕ) × Refuses answer number place)
unfolding Refuses
graded_or_refused (Ok counts) = inl tt
graded_or_refused (Err (Refused r)) = inr (refusal_number r, refusal_place r, (refl, refl))
graded_or_refused (Err (ShortMatrix words)) = inr (15, words, (refl, refl))
graded_or_refused (Err (ShortClasses faults)) = inr (22, faults, (refl, refl))

-- ---- a call that answers by the table, whatever it writes when it grades

abbrev meant : Call → Grading
meant call = grading_of call.file (room_of call.before)

-- its verdict is the grading's, and a refusal leaves the buffers as they were
pub record ByTheTable (call : Call) : Type 0 where
  pub verdict : answered call.answer ≡ verdict_in (meant call)
  pub keeps : (number place : ℕ) → answered call.answer ≡ refused_at number place → call.after ≡ call.before

counts-nothing : (answer : Answer) (number place : ℕ) → Refuses answer number place → counts_of answer ≡ no_counts
unfolding Refuses
counts-nothing (Ok counts) number place r = absurd r
counts-nothing (Err why) number place r = refl

-- buffers that pass 15 and 22 are long enough
fits : (c : Circuit) (room : Room) → verdict_in (grading_of_circuit c room) ≡ passes → AnswerFits c room
unfolding grading_of_circuit verdict_in
fits c room e = go (ltb room.words (4 * faults)) (ltb room.entries faults) refl refl e
  where
    faults : ℕ
    faults = length (rows_of c)

    go : (a b : Bool) → ltb room.words (4 * faults) ≡ a → ltb room.entries faults ≡ b
        → verdict_in (cond a (refused 15 (4 * faults)) (cond b (refused 22 faults) (graded c))) ≡ passes → AnswerFits c room
    go true b p q r = absurd (never-passes r)
    go false true p q r = absurd (never-passes r)
    go false false p q r = record { words = ltb-false room.words (4 * faults) p; entries = ltb-false room.entries faults q }

module _ (call : Call) (by : ByTheTable call) where
  same_verdict : answered call.answer ≡ first_of (table_for call)
  same_verdict = by.verdict ∙ sym (table-tells call.file (room_of call.before))

  by_the_table : (number place : ℕ) → Refuses call.answer number place ↔ FirstApplying (table_for call) number place
  by_the_table number place =
      let refuses = refuses-is call.answer number place in
      let applying = first-applying (table_for call) number place in
      (λ r. applying.0 (sym same_verdict ∙ refuses.0 r), λ f. refuses.1 (same_verdict ∙ applying.1 f))

  when_none_applies : T (is_graded call.answer) ↔ T (all_of passed (table_for call))
  when_none_applies =
      let is = graded-is call.answer in
      let none = none-applies (table_for call) in
      (λ g. none.0 (sym same_verdict ∙ is.0 g), λ a. is.1 (same_verdict ∙ none.1 a))

  either : (T (is_graded call.answer) × T (all_of passed (table_for call)))
      ⊎ ((number : ℕ) × (place : ℕ) × Refuses call.answer number place × FirstApplying (table_for call) number place)
  either = go (graded_or_refused call.answer)
    where
      go : T (is_graded call.answer) ⊎ ((number : ℕ) × (place : ℕ) × Refuses call.answer number place)
          → (T (is_graded call.answer) × T (all_of passed (table_for call)))
          ⊎ ((number : ℕ) × (place : ℕ) × Refuses call.answer number place × FirstApplying (table_for call) number place)
      go (inl g) = inl (g, when_none_applies.0 g)
      go (inr (number, place, r)) = inr (number, place, r, (by_the_table number place).0 r)

  abbrev Taken : Type 0
  Taken = (c : Circuit) × Accepts call.file c × AnswerFits c (room_of call.before)

  its_circuit : T (is_graded call.answer) → Taken
  unfolding grading_of after_reading verdict_in
  its_circuit g = go (reading_of call.file) refl (sym by.verdict ∙ (graded-is call.answer).0 g)
    where
      go : (read : Reading) → reading_of call.file ≡ read → verdict_in (after_reading read (room_of call.before)) ≡ passes → Taken
      go (refusal number place) e q = absurd (never-passes q)
      go (accepted c) e q = (c, e, fits c (room_of call.before) q)

  with_room : (c : Circuit) → Accepts call.file c → AnswerFits c (room_of call.before) → T (is_graded call.answer)
  unfolding grading_of after_reading grading_of_circuit verdict_in
  with_room c e room =
      let faults = length (rows_of c) in
      (graded-is call.answer).1
      (by.verdict ∙ rw (e, le-ltb (length call.before.matrix) (4 * faults) room.words, le-ltb (length call.before.classes) faults room.entries))

  pub one_by_the_table : One call
  one_by_the_table = record {
    graded_or_refused = either;
    never_both = λ g number place r. never-passes (sym ((refuses-is call.answer number place).0 r) ∙ (graded-is call.answer).0 g);
    refused_by_the_table = by_the_table;
    graded_when_none_applies = when_none_applies;
    graded_is_accepted = its_circuit;
    accepted_is_graded = with_room;
    refusal_counts_nothing = counts-nothing call.answer;
    refusal_keeps_the_buffers = λ number place r. by.keeps number place ((refuses-is call.answer number place).0 r);
  }

-- ---- the demand

untouched : (g : Grading) (number place : ℕ) → verdict_in g ≡ refused_at number place → (before : Buffers) → buffers_after g before ≡ before
unfolding verdict_in buffers_after
untouched (graded c) number place e before = absurd (never-passes (sym e))
untouched (refused n p) number place e before = refl

kept_by_the_table : (call : Call) → Kept call → ByTheTable call
kept_by_the_table call kept = record {
  verdict = answer-is call kept;
  keeps = λ number place e. kept.buffers_at_exit ∙ untouched (meant call) number place (sym (answer-is call kept) ∙ e) call.before;
}

pub one_holds : OneHolds
one_holds call kept = one_by_the_table call (kept_by_the_table call kept)

-- ---- after a grading

-- a list put over the front of a buffer that is long enough keeps the rest
record PutOver (answer buffer : List ℕ) (n : ℕ) : Type 0 where
  rest : drop n (over answer buffer) ≡ drop n buffer
  as_long : length (over answer buffer) ≡ length buffer

put-over : (answer buffer : List ℕ) (n : ℕ) → length answer ≡ n → n ≤ length buffer → PutOver answer buffer n
unfolding over
put-over answer buffer n size fits =
    record {
      rest = drop_at answer (drop (length answer) buffer) n size ∙ rw size;
      as_long = omega (arith, length-append answer (drop (length answer) buffer), length-drop (length answer) buffer);
    }

pub rest-kept : (call : Call) (c : Circuit) → Gave call c → RestKept call c
unfolding matrix_of
rest-kept call c here =
    let words = put-over (matrix_of c) call.before.matrix (4 * length (rows_of c)) (length_matrix c (rows_of c)) here.room.words in
    let entries = put-over (classes_of (rows_of c)) call.before.classes (length (rows_of c)) (length_classes same_class (rows_of c)) here.room.entries in
    record {
      words = rw here.matrix_is words.rest;
      entries = rw here.classes_are entries.rest;
      as_long = ap₂ room_for (ap length here.matrix_is ∙ words.as_long) (ap length here.classes_are ∙ entries.as_long);
    }

pub grading_keeps_the_rest : GradingKeepsTheRest
grading_keeps_the_rest call c given = rest-kept call c (gave call c given)
