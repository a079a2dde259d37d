-- The demands leave one outcome only, and it is the promise's: of two calls that meet them both graded the circuit that the file tells, and
-- agree in their cells, their classes and the rest, or both were refused by the first test that applies. The right grader's call is one.
use Prim.Native.Nat.{ℕ, ◌*◌}
use mathlib.Core.Path.{◌≡◌, refl, sym, ap, ap₂, subst, ◌∙◌}
use mathlib.Core.Logic.{◌⊎◌, inl, inr}
use mathlib.Core.List.{List}
use lib.Dec.{T}
use lib.ListN.{length, drop}
use Rattle.switch.specs.Modules.{all_of}
use Rattle.switch.proofs.Depths.{one_greatest}
use Rattle.circuit.specs.Circuit.{Circuit}
use Rattle.circuit.specs.Table.{Test}
use Rattle.circuit.specs.Reading.{reading_of}
use Rattle.grading.specs.Buffers.{Buffers, Room, room_of}
use Rattle.grading.specs.Rows.{rows_of}
use Rattle.grading.specs.Rounds.{DistanceIn}
use Rattle.grading.specs.Grading.{Counts}
use Rattle.grading.specs.Promise.{is_graded, number_of, place_of, counts_of}
use Rattle.grading.proofs.PromiseLaws.{same_buffers}
use Rattle.demands.specs.Calls.{Call, Kept, Accepts, GradedAs, Refuses, class_at}
use Rattle.demands.specs.One.{passed, FirstApplying, table_of, table_for, SameOutcome, RestKept}
use Rattle.demands.specs.Two.{CellsTell, ClassesTell}
use Rattle.demands.specs.Graders.{called, rightly}
use Rattle.demands.specs.Determined.{MeetsDemands, DemandsLeaveOneOutcome, DemandsAreThePromise}
use Rattle.demands.proofs.GradingVerdicts.{graded-is, refuses-is}
use Rattle.demands.proofs.OneProof.{one_holds, grading_keeps_the_rest}
use Rattle.demands.proofs.Gave.{gave, rounds_given_lem}
use Rattle.demands.proofs.Outcomes.{same_answer}
use Rattle.demands.proofs.Cells.{cell_is_path}
use Rattle.demands.proofs.ClassCounts.{classes_count_once}
use Rattle.demands.proofs.RightProof.{rightly_is_right}
use Rattle.demands.proofs.CellsAgree.{same_lists, RowsAreWords, same_mark, same_word, kept-words}
use Rattle.demands.proofs.ClassesAgree.{same_class_lem, same_count, same_found}

all-counts : (a b : Counts)
    → a.vectors ≡ b.vectors → a.faults ≡ b.faults → a.classes ≡ b.classes → a.found ≡ b.found → a.rounds ≡ b.rounds → a ≡ b
all-counts a b vectors faults classes found rounds =
    λ i. record { vectors = vectors i; faults = faults i; classes = classes i; found = found i; rounds = rounds i }

-- where a call graded, the words of its rows have 64 bits
abbrev WordsGiven : Call → Type 0
WordsGiven call = (c : Circuit) → Accepts call.file c → T (is_graded call.answer) → RowsAreWords call c

module _ (one other : Call) (meets : MeetsDemands one) (meets' : MeetsDemands other) (same : one.before ≡ other.before) where
  same_matrix : one.before.matrix ≡ other.before.matrix
  same_matrix = ap (λ (buffers : Buffers). buffers.matrix) same

  same_classes : one.before.classes ≡ other.before.classes
  same_classes = ap (λ (buffers : Buffers). buffers.classes) same

  both_refused : (number place : ℕ) → Refuses one.answer number place → Refuses other.answer number place → SameOutcome one other
  both_refused number place r r' =
      let a = meets.one in
      let b = meets'.one in
      record {
        answer = same_answer one.answer other.answer
            ((refuses-is one.answer number place).0 r ∙ sym ((refuses-is other.answer number place).0 r'))
            (a.refusal_counts_nothing number place r ∙ sym (b.refusal_counts_nothing number place r'));
        buffers = a.refusal_keeps_the_buffers number place r ∙ same ∙ sym (b.refusal_keeps_the_buffers number place r');
      }

  module _ (c : Circuit) (accepts : Accepts one.file c) (accepts' : Accepts other.file c)
      (g : T (is_graded one.answer)) (g' : T (is_graded other.answer)) where
    abbrev rows : ℕ
    rows = length (rows_of c)

    abbrev cells : CellsTell one c
    cells = meets.cells c accepts g

    abbrev cells' : CellsTell other c
    cells' = meets'.cells c accepts' g'

    abbrev numbers : ClassesTell one c
    numbers = meets.classes c accepts g

    abbrev numbers' : ClassesTell other c
    numbers' = meets'.classes c accepts' g'

    abbrev rest : RestKept one c
    rest = meets.rest c accepts g

    abbrev rest' : RestKept other c
    rest' = meets'.rest c accepts' g'

    same_counts : counts_of one.answer ≡ counts_of other.answer
    same_counts =
        all-counts (counts_of one.answer) (counts_of other.answer)
        (numbers.vectors ∙ sym numbers'.vectors)
        (numbers.faults ∙ sym numbers'.faults)
        (same_count one other c numbers numbers')
        (same_found one other c numbers numbers' (same_mark one other c cells cells'))
        (one_greatest (DistanceIn c) _ _ (meets.rounds c accepts g) (meets'.rounds c accepts' g'))

    -- as long at exit as each other
    as_long : room_of one.after ≡ room_of other.after
    as_long = rest.as_long ∙ ap room_of same ∙ sym rest'.as_long

    matrices : RowsAreWords one c → RowsAreWords other c → one.after.matrix ≡ other.after.matrix
    matrices words words' =
        same_lists (4 * rows) one.after.matrix other.after.matrix
        (ap (λ (room : Room). room.words) as_long)
        (same_word one other c cells cells' words words')
        (rest.words ∙ ap (drop (4 * rows)) same_matrix ∙ sym rest'.words)

    class_buffers : one.after.classes ≡ other.after.classes
    unfolding class_at
    class_buffers =
        same_lists rows one.after.classes other.after.classes
        (ap (λ (room : Room). room.entries) as_long)
        (same_class_lem one other c numbers numbers')
        (rest.entries ∙ ap (drop rows) same_classes ∙ sym rest'.entries)

    both_graded : RowsAreWords one c → RowsAreWords other c → SameOutcome one other
    both_graded words words' = record {
      answer = same_answer one.answer other.answer ((graded-is one.answer).0 g ∙ sym ((graded-is other.answer).0 g')) same_counts;
      buffers = same_buffers one.after other.after (matrices words words') class_buffers;
    }

-- ---- any two calls

one_outcome : (one other : Call) → WordsGiven one → WordsGiven other → MeetsDemands one → MeetsDemands other
    → one.file ≡ other.file → one.before ≡ other.before → SameOutcome one other
one_outcome one other words words' meets meets' file before = go meets.one.graded_or_refused
  where
    same_table : table_for one ≡ table_for other
    same_table = ap₂ (λ (bytes : List ℕ) (buffers : Buffers). table_of bytes (room_of buffers)) file before

    accepts' : (c : Circuit) → Accepts one.file c → Accepts other.file c
    accepts' c e = ap reading_of (sym file) ∙ e

    go : (T (is_graded one.answer) × T (all_of passed (table_for one)))
        ⊎ ((number : ℕ) × (place : ℕ) × Refuses one.answer number place × FirstApplying (table_for one) number place)
        → SameOutcome one other
    go (inl (g, none)) =
        let g' = meets'.one.graded_when_none_applies.1 (subst (λ (tests : List Test). T (all_of passed tests)) same_table none) in
        let its = meets.one.graded_is_accepted g in
        let c : Circuit = its.0 in
        let e : Accepts other.file c = accepts' c its.1 in
        both_graded one other meets meets' before c its.1 e g g' (words c its.1 g) (words' c e g')
    go (inr (number, place, r, first)) =
        both_refused one other meets meets' before number place r
        ((meets'.one.refused_by_the_table number place).1
        (subst (λ (tests : List Test). FirstApplying tests number place) same_table first))

pub demands_leave_one_outcome : DemandsLeaveOneOutcome
demands_leave_one_outcome one other words words' =
    one_outcome one other (λ c e g i h. words i) (λ c e g i h. words' i)

-- ---- the demands and the promise

as_graded : (call : Call) → Kept call → (c : Circuit) → Accepts call.file c → T (is_graded call.answer) → GradedAs call c
as_graded call kept c accepts g = record { kept = kept; accepts = accepts; graded = g }

pub kept_meets : (call : Call) → Kept call → MeetsDemands call
kept_meets call kept = record {
  one = one_holds call kept;
  cells = λ c e g. cell_is_path call c (as_graded call kept c e g);
  classes = λ c e g. classes_count_once call c (as_graded call kept c e g);
  rounds = λ c e g. rounds_given_lem call c (gave call c (as_graded call kept c e g));
  rest = λ c e g. grading_keeps_the_rest call c (as_graded call kept c e g);
}

pub demands_are_the_promise : DemandsAreThePromise
demands_are_the_promise call words = (meets_kept, kept_meets call)
  where
    right : Call
    right = called rightly call.file call.before

    right_kept : Kept right
    right_kept = rightly_is_right call.file call.before

    meets_kept : MeetsDemands call → Kept call
    meets_kept meets =
        let same : SameOutcome call right =
        one_outcome call right (λ c e g i h. words i) (λ c e g. kept-words right c (as_graded right right_kept c e g))
        meets (kept_meets right right_kept) refl refl in
        record {
          is_graded_lem = ap is_graded same.answer ∙ right_kept.is_graded_lem;
          number = ap number_of same.answer ∙ right_kept.number;
          place = ap place_of same.answer ∙ right_kept.place;
          counts = ap counts_of same.answer ∙ right_kept.counts;
          buffers_at_exit = same.buffers ∙ right_kept.buffers_at_exit;
        }
