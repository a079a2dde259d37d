-- Demand 1: one outcome only keeps the promise, since number, place and counts tell an answer.
use Prim.Native.Nat.{ℕ, ◌≤◌}
use mathlib.Core.Path.{◌≡◌, sym, ap, subst, ◌∙◌}
use mathlib.Core.List.{List}
use native.Mathlib.Omega.{arith}
use Rattle.std.specs.Prelude.{Option, Some, Ok, Err}
use Rattle.circuit.specs.Table.{refused_at}
use Rattle.circuit.specs.Refusals.{refusal_number}
use Rattle.circuit.specs.declared.refusal.Refusal.{Refusal}
use Rattle.circuit.proofs.AnswerLaws.{verdict-tells}
use Rattle.circuit.proofs.Tested.{never-passes}
use Rattle.grading.specs.Buffers.{Buffers, room_of}
use Rattle.grading.specs.Grading.{Grading, grading_of}
use Rattle.grading.specs.Promise.{Answer, number_why, place_why, counts_of, counts_meant, AnswersAs}
use Rattle.grading.specs.declared.Counts.{Counts as CountsRecord}
use Rattle.grading.specs.declared.Ungraded.{Ungraded}
use Rattle.grading.specs.declared.Ungraded.TheVariants.{Refused, ShortMatrix, ShortClasses}
use Rattle.demands.specs.One.{OneOutcomeOnly}
use Rattle.demands.proofs.GradingVerdicts.{answered, answer-tells}

most : (r : Refusal) → refusal_number r ≤ 14
most r = grind arith

pub same_counts : (r s : CountsRecord) → counts_meant r ≡ counts_meant s → r ≡ s
same_counts r s e = λ i. record { vectors = (e i).vectors; faults = (e i).faults; classes = (e i).classes; found = (e i).found; rounds = (e i).rounds }

same_number : {n p m q : ℕ} → refused_at n p ≡ refused_at m q → n ≡ m
same_number e = cc

same_place : {n p m q : ℕ} → refused_at n p ≡ refused_at m q → p ≡ q
same_place e = cc

-- the number tells which reason it is, and the place what it holds
same_why : (r s : Ungraded) → refused_at (number_why r) (place_why r) ≡ refused_at (number_why s) (place_why s) → r ≡ s
same_why (Refused r) (Refused s) v = let e : ◌≡◌ {A = Option Refusal} (Some r) (Some s) = verdict-tells (Some r) (Some s) v in cc
same_why (Refused r) (ShortMatrix words) v = absurd (omega (arith, same_number v, most r))
same_why (Refused r) (ShortClasses faults) v = absurd (omega (arith, same_number v, most r))
same_why (ShortMatrix words) (Refused s) v = absurd (omega (arith, same_number v, most s))
same_why (ShortMatrix words) (ShortMatrix others) v = ap ShortMatrix (same_place v)
same_why (ShortMatrix words) (ShortClasses faults) v = absurd (omega (arith, same_number v))
same_why (ShortClasses faults) (Refused s) v = absurd (omega (arith, same_number v, most s))
same_why (ShortClasses faults) (ShortMatrix words) v = absurd (omega (arith, same_number v))
same_why (ShortClasses faults) (ShortClasses others) v = ap ShortClasses (same_place v)

pub same_answer : (a b : Answer) → answered a ≡ answered b → counts_of a ≡ counts_of b → a ≡ b
unfolding answered
same_answer (Ok counts) (Ok others) v e = ap (λ (r : CountsRecord). Ok r) (same_counts counts others e)
same_answer (Ok counts) (Err why) v e = absurd (never-passes (sym v))
same_answer (Err why) (Ok others) v e = absurd (never-passes v)
same_answer (Err why) (Err other) v e = ap (λ (r : Ungraded). Err r) (same_why why other v)

-- one answer to a grading, and one way to leave the buffers
pub answered_once : {g : Grading} {a b : Answer} {before after after' : Buffers} → AnswersAs g a before after → AnswersAs g b before after'
    → (a ≡ b) × (after ≡ after')
answered_once {g} {a} {b} {before} {after} {after'} p q = (
  same_answer a b (answer-tells g a before after p ∙ sym (answer-tells g b before after' q)) (p.counts ∙ sym q.counts),
  p.buffers_at_exit ∙ sym q.buffers_at_exit,
)

pub one_outcome_only : OneOutcomeOnly
one_outcome_only one other kept kept' file before =
    let turned : AnswersAs (grading_of one.file (room_of one.before)) other.answer one.before other.after
    = subst (λ (bytes : List ℕ). AnswersAs (grading_of bytes (room_of one.before)) other.answer one.before other.after) (sym file)
    (subst (λ (buffers : Buffers). AnswersAs (grading_of other.file (room_of buffers)) other.answer buffers other.after) (sym before) kept') in
    let same = answered_once kept turned in
    record { answer = same.0; buffers = same.1 }
