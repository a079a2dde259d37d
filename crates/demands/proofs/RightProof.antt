-- `rightly` meets the promise of `grade`: each test of the table has an answer that tells its number and its place, and the work on a
-- circuit is the definitions'. So the promise can be met (demand 1). Assumes nothing.
use Prim.Native.Nat.{ℕ}
use mathlib.Core.Path.{◌≡◌, refl, subst}
use mathlib.Core.Bool.{Bool, true, false, cond}
use mathlib.Core.List.{List, [], ◌∷◌, ◌++◌}
use lib.Dec.{eqb}
use lib.ListN.{length}
use Rattle.std.specs.Prelude.{Err}
use Rattle.switch.specs.Conduction.{by_position, stated}
use Rattle.circuit.specs.Fields.{Field, Cut, clean, broken, field, cut_from}
use Rattle.circuit.specs.Circuit.{Circuit}
use Rattle.circuit.specs.Known.{Known, start, known_after}
use Rattle.circuit.specs.Order.{Tag, inputs_tag, type_tag, edge_tag, bridge_tag, instance_tag, vector_tag, no_tag, tag_of}
use Rattle.circuit.specs.Table.{Test, Verdict, passes, refused_at, first_of, body_tests, field_tests, end_tests}
use Rattle.circuit.specs.Table.{inputs_tests, type_tests, edge_tests, edge_tests_of, bridge_tests, instance_tests, instance_tests_of, vector_tests}
use Rattle.grading.specs.Buffers.{Buffers, Room, room_of}
use Rattle.grading.specs.Rows.{row_words, matrix_of}
use Rattle.grading.specs.Classes.{found_count}
use Rattle.grading.specs.Grading.{no_counts, Grading, graded, grading_of, is_graded_in, counts_in, number_in, place_in, buffers_after}
use Rattle.grading.specs.Grading.{refused}
use Rattle.grading.specs.Grading as grading
use Rattle.grading.specs.Promise.{is_graded, number_of, place_of, counts_of, AnswersAs}
use Rattle.grading.specs.declared.Ungraded.TheVariants.{Refused, ShortMatrix, ShortClasses}
use Rattle.demands.specs.One.{buffer_tests, tests_from, table_of, PromiseCanBeMet}
use Rattle.demands.specs.Calls.{Kept}
use Rattle.demands.specs.Graders.{Outcome, Grader, called, refusal_of, refusing, outcome_of, grades_by}
use Rattle.demands.specs.Graders.{work_by, right_work, rightly, RightlyIsRight}
use Rattle.demands.proofs.GradingVerdicts.{verdict_in, table-tells}

-- ---- each test of the table has an answer

abbrev Told : ℕ → ℕ → Type 0
Told number place =
    (number_of (refusing number place) ≡ number) × (place_of (refusing number place) ≡ place) × (counts_of (refusing number place) ≡ no_counts)

AllTold : List Test → Type 0
AllTold [] = Unit {0}
AllTold (t ∷ ts) = Told t.number t.place × AllTold ts

told-append : (ts us : List Test) → AllTold ts → AllTold us → AllTold (ts ++ us)
unfolding AllTold
told-append [] us a b = b
told-append (t ∷ ts) us a b = (a.0, told-append ts us a.1 b)

VerdictTold : Verdict → Type 0
VerdictTold passes = Unit {0}
VerdictTold (refused_at number place) = Told number place

told-first : (ts : List Test) → AllTold ts → VerdictTold (first_of ts)
unfolding AllTold VerdictTold first_of
told-first [] a = tt
told-first (t ∷ ts) a = go t.refuses (told-first ts a.1)
  where
    go : (b : Bool) → VerdictTold (first_of ts) → VerdictTold (cond b (refused_at t.number t.place) (first_of ts))
    go true later = a.0
    go false later = later

told-body : (tag : Tag) (c : Circuit) (at : ℕ) (body : List ℕ) → AllTold (body_tests tag c at body)
unfolding AllTold refusing refusal_of
    body_tests inputs_tests type_tests edge_tests edge_tests_of bridge_tests instance_tests instance_tests_of vector_tests
told-body inputs_tag c at body = ((refl, refl, refl), ((refl, refl, refl), tt))
told-body type_tag c at body = ((refl, refl, refl), ((refl, refl, refl), ((refl, refl, refl), tt)))
told-body (edge_tag by_position) c at body = ((refl, refl, refl), ((refl, refl, refl), ((refl, refl, refl), ((refl, refl, refl), tt))))
told-body (edge_tag stated) c at body = ((refl, refl, refl), ((refl, refl, refl), ((refl, refl, refl), tt)))
told-body bridge_tag c at body = ((refl, refl, refl), ((refl, refl, refl), ((refl, refl, refl), tt)))
told-body instance_tag c at body = (
  (refl, refl, refl),
  ((refl, refl, refl), ((refl, refl, refl), ((refl, refl, refl), ((refl, refl, refl), ((refl, refl, refl), ((refl, refl, refl), tt)))))),
)
told-body vector_tag c at body = ((refl, refl, refl), ((refl, refl, refl), ((refl, refl, refl), tt)))
told-body no_tag c at body = tt

told-field : (known : Known) (f : Field) → AllTold (field_tests known f)
unfolding AllTold refusing refusal_of field_tests
told-field known f =
    ((refl, refl, refl), ((refl, refl, refl), ((refl, refl, refl), told-body (tag_of f.tag) known.circuit f.at f.body)))

told-end : (known : Known) (size : ℕ) → AllTold (end_tests true known size)
unfolding AllTold refusing refusal_of end_tests
told-end known size = ((refl, refl, refl), ((refl, refl, refl), ((refl, refl, refl), ((refl, refl, refl), tt))))

module _ (size : ℕ) (room : Room) where
  told_buffers : (c : Circuit) → AllTold (buffer_tests c room)
  unfolding AllTold refusing refusal_of buffer_tests
  told_buffers c = ((refl, refl, refl), ((refl, refl, refl), tt))

  told_rest : (known : Known) (cut : Cut) → AllTold (tests_from size room known cut)
  unfolding AllTold refusing refusal_of tests_from
  told_rest known clean =
      told-append (end_tests true known size) (buffer_tests known.circuit room) (told-end known size) (told_buffers known.circuit)
  told_rest known (broken at) = ((refl, refl, refl), tt)
  told_rest known (field f rest) =
      told-append (field_tests known f) (tests_from size room (known_after known f) rest) (told-field known f)
      (told_rest (known_after known f) rest)

told-table : (file : List ℕ) (room : Room) → AllTold (table_of file room)
unfolding AllTold refusing refusal_of table_of
told-table file room = ((refl, refl, refl), told_rest (length file) room start (cut_from file 0))

told-grading : (file : List ℕ) (room : Room) → VerdictTold (verdict_in (grading_of file room))
told-grading file room =
    subst VerdictTold (table-tells file room) (told-first (table_of file room) (told-table file room))

-- ---- so every file's outcome meets the promise

not-graded : (number place : ℕ) → is_graded (refusing number place) ≡ false
unfolding refusing
not-graded number place = go (eqb number 15) (eqb number 22)
  where
    go : (a b : Bool) → is_graded (cond a (Err (ShortMatrix place)) (cond b (Err (ShortClasses place)) (Err (Refused (refusal_of number place))))) ≡ false
    go true b = refl
    go false true = refl
    go false false = refl

outcome_answers : (g : Grading) → VerdictTold (verdict_in g) → (before : Buffers)
    → let out : Outcome = outcome_of right_work g before in AnswersAs g out.answer before out.after
unfolding outcome_of right_work work_by row_words matrix_of found_count VerdictTold verdict_in
    is_graded_in number_in place_in counts_in buffers_after grading.counts_of_circuit
outcome_answers (graded c) told before = record { is_graded_lem = refl; number = refl; place = refl; counts = refl; buffers_at_exit = refl }
outcome_answers (refused number place) told before =
    record { is_graded_lem = not-graded number place; number = told.0; place = told.1; counts = told.2; buffers_at_exit = refl }

pub rightly_is_right : RightlyIsRight
unfolding rightly grades_by
rightly_is_right file before = outcome_answers (grading_of file (room_of before)) (told-grading file (room_of before)) before

-- and so does whatever answers as it does
pub as_rightly : (grader : Grader) (file : List ℕ) (before : Buffers) → rightly file before ≡ grader file before → Kept (called grader file before)
as_rightly grader file before same =
    subst (λ (o : Outcome). Kept (record { file = file; before = before; answer = o.answer; after = o.after })) same (rightly_is_right file before)

pub promise_can_be_met : PromiseCanBeMet
promise_can_be_met file before =
    record { call = called rightly file before; of_file = refl; of_buffers = refl; kept = rightly_is_right file before }
