-- The verdict of a grading: it is that of the table's first test that refuses, and that of an answer that keeps the promise.
use Prim.Native.Nat.{ℕ, ◌*◌, ◌≤◌}
use mathlib.Core.Path.{◌≡◌, refl, sym, ap₂, ◌∙◌}
use mathlib.Core.Bool.{Bool, true, false, cond, true≢false}
use mathlib.Core.Logic.{◌↔◌}
use mathlib.Core.List.{List}
use native.Mathlib.Omega.{arith}
use lib.Dec.{T, ltb}
use lib.ListN.{length}
use Rattle.std.specs.Prelude.{Ok, Err}
use Rattle.circuit.specs.Limits.{most_bytes}
use Rattle.circuit.specs.Fields.{Cut, clean, broken, field, cut_from}
use Rattle.circuit.specs.Circuit.{Circuit}
use Rattle.circuit.specs.Known.{Known, start, known_after}
use Rattle.circuit.specs.Table.{Verdict, passes, refused_at, first_of, field_tests, end_tests}
use Rattle.circuit.specs.Reading.{Reading, accepted, refusal, unless, read_from, reading_with}
use Rattle.circuit.proofs.Tested.{never-passes}
use Rattle.grading.specs.Buffers.{Buffers, Room, room_of}
use Rattle.grading.specs.Rows.{rows_of}
use Rattle.grading.specs.Grading.{Grading, graded, grading_of, grading_of_circuit, after_reading, is_graded_in, number_in, place_in}
use Rattle.grading.specs.Grading.{refused}
use Rattle.grading.specs.Promise.{Answer, is_graded, number_why, place_why, AnswersAs}
use Rattle.grading.specs.declared.Ungraded.TheVariants.{Refused, ShortMatrix, ShortClasses}
use Rattle.demands.specs.Calls.{Call, Kept, Refuses}
use Rattle.demands.specs.One.{buffer_tests, tests_from, table_of}
use Rattle.demands.proofs.Verdicts.{or_later, first-append}

-- ---- the table and the grading

unfoldable pub verdict_in : Grading → Verdict
verdict_in (graded c) = passes
verdict_in (refused number place) = refused_at number place

module _ (size : ℕ) (room : Room) where
  later_is : (v later : Verdict) (read : Reading) → later ≡ verdict_in (after_reading read room)
      → or_later v later ≡ verdict_in (after_reading (unless v read) room)
  unfolding or_later unless after_reading verdict_in
  later_is passes later read e = e
  later_is (refused_at number place) later read e = refl

  buffers_tell : (c : Circuit) → first_of (buffer_tests c room) ≡ verdict_in (grading_of_circuit c room)
  unfolding first_of buffer_tests grading_of_circuit verdict_in
  buffers_tell c = go (ltb room.words (4 * length (rows_of c))) (ltb room.entries (length (rows_of c)))
    where
      faults : ℕ
      faults = length (rows_of c)

      go : (a b : Bool) → cond a (refused_at 15 (4 * faults)) (cond b (refused_at 22 faults) passes)
          ≡ verdict_in (cond a (refused 15 (4 * faults)) (cond b (refused 22 faults) (graded c)))
      go true b = refl
      go false true = refl
      go false false = refl

  rest_tells : (known : Known) (cut : Cut)
      → first_of (tests_from size room known cut) ≡ verdict_in (after_reading (read_from true size known cut) room)
  unfolding tests_from read_from after_reading verdict_in first_of
  rest_tells known clean =
      first-append (end_tests true known size) (buffer_tests known.circuit room)
      ∙ later_is (first_of (end_tests true known size)) (first_of (buffer_tests known.circuit room)) (accepted known.circuit) (buffers_tell known.circuit)
  rest_tells known (broken at) = refl
  rest_tells known (field f rest) =
      first-append (field_tests known f) (tests_from size room (known_after known f) rest)
      ∙ later_is (first_of (field_tests known f)) (first_of (tests_from size room (known_after known f) rest)) (read_from true size (known_after known f) rest)
      (rest_tells (known_after known f) rest)

pub table-tells : (file : List ℕ) (room : Room) → first_of (table_of file room) ≡ verdict_in (grading_of file room)
unfolding table_of grading_of reading_with after_reading verdict_in first_of
table-tells file room = go (ltb most_bytes (length file))
  where
    go : (long : Bool) → cond long (refused_at 1 0) (first_of (tests_from (length file) room start (cut_from file 0)))
        ≡ verdict_in (after_reading (cond long (refusal 1 0) (read_from true (length file) start (cut_from file 0))) room)
    go true = refl
    go false = rest_tells (length file) room start (cut_from file 0)

-- ---- the grading and the answer

unfoldable pub answered : Answer → Verdict
answered (Ok counts) = passes
answered (Err why) = refused_at (number_why why) (place_why why)

pub answer-tells : (g : Grading) (answer : Answer) (before after : Buffers) → AnswersAs g answer before after → answered answer ≡ verdict_in g
unfolding answered verdict_in is_graded_in number_in place_in
answer-tells (graded c) (Ok counts) before after kept = refl
answer-tells (graded c) (Err why) before after kept = absurd (true≢false (sym kept.is_graded_lem))
answer-tells (refused number place) (Ok counts) before after kept = absurd (true≢false kept.is_graded_lem)
answer-tells (refused number place) (Err why) before after kept = ap₂ refused_at kept.number kept.place

pub graded-is : (answer : Answer) → T (is_graded answer) ↔ (answered answer ≡ passes)
unfolding answered
graded-is (Ok counts) = (λ t. refl, λ e. tt)
graded-is (Err why) = (λ t. absurd t, λ e. absurd (never-passes e))

pub refuses-is : (answer : Answer) (number place : ℕ) → Refuses answer number place ↔ (answered answer ≡ refused_at number place)
unfolding Refuses answered
refuses-is (Ok counts) number place = (λ t. absurd t, λ e. absurd (never-passes (sym e)))
refuses-is (Err (Refused r)) number place = (λ p. ap₂ refused_at p.0 p.1, λ e. (cc, cc))
refuses-is (Err (ShortMatrix words)) number place = (λ p. ap₂ refused_at p.0 p.1, λ e. (cc, cc))
refuses-is (Err (ShortClasses faults)) number place = (λ p. ap₂ refused_at p.0 p.1, λ e. (cc, cc))

-- an answer that keeps the promise has the verdict of the grading
pub answer-is : (call : Call) → Kept call → answered call.answer ≡ verdict_in (grading_of call.file (room_of call.before))
answer-is call kept = answer-tells (grading_of call.file (room_of call.before)) call.answer call.before call.after kept

-- ---- the reading behind a number

-- the number that a grading is refused with is that of the reading, or past the table's
pub graded-number : (c : Circuit) (room : Room) (n : ℕ) → 1 ≤ n → n ≤ 14 → n ≡ number_in (grading_of_circuit c room) → ⊥
unfolding grading_of_circuit number_in
graded-number c room n low high = go (ltb room.words (4 * length (rows_of c))) (ltb room.entries (length (rows_of c)))
  where
    go : (a b : Bool) → n ≡ number_in (cond a (refused 15 (4 * length (rows_of c))) (cond b (refused 22 (length (rows_of c))) (graded c))) → ⊥
    go true b e = absurd (omega arith)
    go false true e = absurd (omega arith)
    go false false e = absurd (omega arith)

-- so a number of the table, with its place, is that of the reading
pub refused-there : (m : ℕ) → 1 ≤ m → m ≤ 14 → (r : Reading) (room : Room) (p : ℕ)
    → m ≡ number_in (after_reading r room) → p ≡ place_in (after_reading r room) → r ≡ refusal m p
unfolding after_reading number_in place_in
refused-there m low high (accepted c) room p e at = absurd (graded-number c room m low high e)
refused-there m low high (refusal n q) room p e at = rw (e, at)
