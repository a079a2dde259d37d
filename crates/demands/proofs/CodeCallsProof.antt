-- The contracts of `grade` and of the entries for C that grade say what the demands speak of.
use Prim.Native.Nat.{ℕ}
use mathlib.Core.Path.{◌≡◌, refl, sym, ap, ap₂, ◌∙◌}
use mathlib.Core.List.{List, [], ◌∷◌}
use lib.Dec.{T}
use lib.ListN.{length, take}
use base.Logic.{emp}
use prog.Routine.{Callee}
use prog.Wired.{Code}
use contract.Lifetimes.{Lfts}
use contract.Monad.{fact, fact_mono}
use contract.Running.{within}
use denote.Ask.Run.{routine_mono}
use denote.Triple.Clauses.{Ended, AtExit, at_exit}
use denote.Triple.Entry.{Args, Res}
use denote.Triple.Weaken.{weaken}
use Rattle.std.specs.Prelude.{Ok, Err}
use Rattle.grading.specs.Buffers.{Buffers, room_of}
use Rattle.grading.specs.Grading.{Grading, grading_of, over, buffers_after}
use Rattle.grading.specs.Promise.{Answer, is_graded, counts_of}
use Rattle.grading.specs.declared.Ungraded.TheVariants.{Refused, ShortMatrix, ShortClasses}
use Rattle.grade_file.specs.contracts.grade.grade as grade
use Rattle.grade_file.proofs.grade.grade.Met as grade_met
use Rattle.grade_file.proofs.grade.grade.Symbol as grade_symbol
use Rattle.togyamiru.specs.Entry.{six_numbers, EntryPromise}
use Rattle.togyamiru.specs.NumbersEntry.{all_numbers, NumbersPromise}
use Rattle.togyamiru.specs.NumbersEntry as entry
use Rattle.togyamiru.proofs.Numbers.{numbers, numbers_are}
use Rattle.togyamiru.specs.contracts.togyamiru_grade as togyamiru_grade
use Rattle.togyamiru.proofs.togyamiru_grade.Met as togyamiru_grade_met
use Rattle.togyamiru.proofs.togyamiru_grade.Symbol as togyamiru_grade_symbol
use Rattle.togyamiru.specs.contracts.togyamiru_grade_numbers as togyamiru_grade_numbers
use Rattle.togyamiru.proofs.togyamiru_grade_numbers.Met as togyamiru_grade_numbers_met
use Rattle.togyamiru.proofs.togyamiru_grade_numbers.Symbol as togyamiru_grade_numbers_symbol
use Rattle.demands.specs.Calls.{Call, Kept, Refuses}
use Rattle.demands.specs.Determined.{MeetsDemands}
use Rattle.demands.specs.CodeCalls.{ToldBy, CodeTells, call_of, GradeIsKept}
use Rattle.demands.specs.CodeCalls.{six_of, numbers_of, CallOn, EntryIsCall, of_entry, EntryIsKept, NumbersAreCall, of_numbers, NumbersAreKept}
use Rattle.demands.proofs.Determines.{kept_meets}
use Rattle.demands.proofs.RightProof.{promise_can_be_met}

-- what follows from what is told of the code is so of it
so_of_code : (M : Type 1) (code : Code) (name : Callee) (F : Ended) (Told Follows : ToldBy F)
    → ((κs : Lfts F.signature.lifetimes) (a : Args F.signature κs) (r : Res F.signature κs) (e : AtExit F κs) → Told κs a r e → Follows κs a r e)
    → CodeTells M code name F Told → CodeTells M code name F Follows
so_of_code M code name F Told Follows follows tells γ wired 𝓤 𝓛 𝓜 𝓡 =
    weaken 𝓛 F
    (λ κs a. record { ghost = Unit {0}; requires = λ g. emp 𝓤; ensures = λ g r e. fact 𝓤 (Told κs a r e) })
    (λ κs a g r e. fact 𝓤 (Follows κs a r e))
    (λ κs a g r ws. fact_mono 𝓤 (Told κs a r (at_exit F κs a ws)) (Follows κs a r (at_exit F κs a ws)) (follows κs a r (at_exit F κs a ws)))
    (𝓡.run (γ name)) (routine_mono 𝓤 𝓛.H 𝓜 𝓡 (γ name)) (tells γ wired 𝓤 𝓛 𝓜 𝓡)

-- the kit's theorem speaks of the environment of a run, which may be any
grade_tells : (M : Type 1) → CodeTells M grade_symbol.code grade_symbol.name grade.ended (λ κs a r e. Kept (call_of κs a r e))
grade_tells M γ wired 𝓤 𝓛 𝓜 𝓡 = grade_met.met 𝓤 𝓛 𝓜 (within 𝓤 𝓛.H 𝓜 𝓡 γ) wired

pub grade_is_kept : GradeIsKept
grade_is_kept = record {
  asks_nothing = λ κs a. tt;
  keeps = λ κs a r e kept. kept;
  routine_keeps = grade_tells;
  routine_meets_demands = λ M.
      so_of_code M grade_symbol.code grade_symbol.name grade.ended
      (λ κs a r e. Kept (call_of κs a r e)) (λ κs a r e. MeetsDemands (call_of κs a r e))
      (λ κs a r e. kept_meets (call_of κs a r e)) (grade_tells M);
}

-- ---- the numbers of an answer, of which the first six are those of the older entry

numbers-refused : (answer : Answer) (number place : ℕ) → Refuses answer number place → numbers_of answer ≡ number ∷ place ∷ 0 ∷ 0 ∷ 0 ∷ 0 ∷ 0 ∷ []
unfolding numbers_of six_of Refuses
numbers-refused (Ok counts) number place r = absurd r
numbers-refused (Err (Refused refusal)) number place (n, p) = λ i. n i ∷ p i ∷ 0 ∷ 0 ∷ 0 ∷ 0 ∷ 0 ∷ []
numbers-refused (Err (ShortMatrix words)) number place (n, p) = λ i. n i ∷ p i ∷ 0 ∷ 0 ∷ 0 ∷ 0 ∷ 0 ∷ []
numbers-refused (Err (ShortClasses faults)) number place (n, p) = λ i. n i ∷ p i ∷ 0 ∷ 0 ∷ 0 ∷ 0 ∷ 0 ∷ []

nothing-refused : (answer : Answer) → T (is_graded answer) → numbers_of answer ≡ numbers 0 0 (counts_of answer)
unfolding numbers_of six_of
nothing-refused (Ok counts) g = refl
nothing-refused (Err why) g = absurd g

six_of_lem : (answer : Answer) {all : List ℕ} → numbers_of answer ≡ all → six_of answer ≡ take 6 all
unfolding numbers_of six_of
six_of_lem answer e = ap (take 6) e

-- ---- the entries for C

-- a call on the same file and buffers is to be graded alike
same : (file : List ℕ) (before : Buffers) (call : Call) → call.file ≡ file → call.before ≡ before
    → grading_of call.file (room_of call.before) ≡ grading_of file (room_of before)
same file before call = ap₂ (λ (bytes : List ℕ) (buffers : Buffers). grading_of bytes (room_of buffers))

-- an entry leaves the buffers as a call that keeps the promise does
call_on : (file : List ℕ) (before after : Buffers) → after ≡ buffers_after (grading_of file (room_of before)) before → CallOn file before after
call_on file before after at-exit =
    let by = promise_can_be_met file before in
    let is = same file before by.call by.of_file by.of_buffers in
    record {
      call = by.call;
      of_file = by.of_file;
      of_buffers = by.of_buffers;
      kept = by.kept;
      to_buffers = by.kept.buffers_at_exit ∙ ap₂ buffers_after is by.of_buffers ∙ sym at-exit;
    }

-- and that call has the numbers that an entry promises
module _ (file : List ℕ) (before after : Buffers) (by : CallOn file before after) where
  abbrev told : Grading
  told = grading_of file (room_of before)

  all_numbers_lem : all_numbers told ≡ numbers_of by.call.answer
  unfolding numbers_of six_of entry.numbers_of
  all_numbers_lem =
      ap all_numbers (sym (same file before by.call by.of_file by.of_buffers))
      ∙ sym (numbers_are _ by.call.answer by.call.before by.call.after (numbers_of by.call.answer) by.kept refl)

  six_numbers_lem : six_numbers told ≡ six_of by.call.answer
  unfolding all_numbers six_numbers
  six_numbers_lem = sym (six_of_lem by.call.answer (sym all_numbers_lem))

entry-is-call : (file : List ℕ) (before : Buffers) (six : List ℕ) (after : Buffers) → EntryPromise file before six after → EntryIsCall file before six after
entry-is-call file before six after promise =
    let by = call_on file before after promise.buffers_at_exit in
    let are : six ≡ six_of by.call.answer = promise.answer_at_exit ∙ six_numbers_lem file before after by in
    record {
      by = by;
      six_numbers_lem = are;
      refusal_counts_nothing = λ number place r. are ∙ six_of_lem by.call.answer (numbers-refused by.call.answer number place r);
      grading_refuses_nothing = λ graded. are ∙ six_of_lem by.call.answer (nothing-refused by.call.answer graded);
    }

entry_tells : (M : Type 1) → CodeTells M togyamiru_grade_symbol.code togyamiru_grade_symbol.name togyamiru_grade.ended (λ κs a r e. of_entry κs a e EntryPromise)
entry_tells M γ wired 𝓤 𝓛 𝓜 𝓡 = togyamiru_grade_met.met 𝓤 𝓛 𝓜 (within 𝓤 𝓛.H 𝓜 𝓡 γ) wired

pub entry_is_kept : EntryIsKept
entry_is_kept = record {
  asks_nothing = λ κs a. tt;
  is_call = λ κs a r e promise. entry-is-call _ _ _ _ promise;
  routine_is_call = λ M.
      so_of_code M togyamiru_grade_symbol.code togyamiru_grade_symbol.name togyamiru_grade.ended (λ κs a r e. of_entry κs a e EntryPromise) (λ κs a r e. of_entry κs a e EntryIsCall)
      (λ κs a r e promise. entry-is-call _ _ _ _ promise) (entry_tells M);
}

numbers-are-call : (file : List ℕ) (before : Buffers) (room room' : List ℕ) (after : Buffers) → NumbersPromise file before room room' after
    → NumbersAreCall file before room room' after
numbers-are-call file before room room' after promise =
    let by = call_on file before after promise.buffers_at_exit in
    let as_many : List ℕ → List ℕ = λ all. over (take (length room) all) room in
    let are : room' ≡ as_many (numbers_of by.call.answer) = promise.numbers_at_exit ∙ ap as_many (all_numbers_lem file before after by) in
    record {
      by = by;
      numbers_are = are;
      refusal_counts_nothing = λ number place r. are ∙ ap as_many (numbers-refused by.call.answer number place r);
      grading_refuses_nothing = λ graded. are ∙ ap as_many (nothing-refused by.call.answer graded);
    }

numbers_tell : (M : Type 1) → CodeTells M togyamiru_grade_numbers_symbol.code togyamiru_grade_numbers_symbol.name togyamiru_grade_numbers.ended (λ κs a r e. of_numbers κs a e NumbersPromise)
numbers_tell M γ wired 𝓤 𝓛 𝓜 𝓡 = togyamiru_grade_numbers_met.met 𝓤 𝓛 𝓜 (within 𝓤 𝓛.H 𝓜 𝓡 γ) wired

pub numbers_are_kept : NumbersAreKept
numbers_are_kept = record {
  asks_nothing = λ κs a. tt;
  is_call = λ κs a r e promise. numbers-are-call _ _ _ _ _ promise;
  routine_is_call = λ M.
      so_of_code M togyamiru_grade_numbers_symbol.code togyamiru_grade_numbers_symbol.name togyamiru_grade_numbers.ended
      (λ κs a r e. of_numbers κs a e NumbersPromise) (λ κs a r e. of_numbers κs a e NumbersAreCall)
      (λ κs a r e promise. numbers-are-call _ _ _ _ _ promise) (numbers_tell M);
}
