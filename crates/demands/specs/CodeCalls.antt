-- Contracts as terms: what the `requires` of a function asks and its `ensures` tells, as the kit makes them of the source and as the proof
-- meets them. Then those of `grade`, and of the entries for C that grade, in the words of the demands, so that these are on the code: the
-- kernel compares.
--   NAME.signature, NAME.ended   the types of the arguments, of the result, and of what is lent to be written
--   NAME_reads.Asked             what the `requires` clauses ask of the arguments
--   NAME_reads.Learnt            what the `ensures` clauses tell of the arguments, the result, and what was lent, as it is at exit
--   NAME_symbol.code             the function's code with that of all it calls, in the kit's logic
--   NAME_symbol.name             what a call of it names; an environment says which routine that is
-- Arguments a stand in their order: a.0, a.1.0, a.1.1.0 and so on; what was lent, at exit, likewise.
use Rattle.std.specs.Prelude.{ℕ, ◌≡◌, List, [], ◌∷◌, ◌++◌, T, length, take}
use seplogic.Ra.Ura.{Ura}
use base.Logic.{emp}
use prog.Model.{Model}
use prog.Routine.{Callee, Env, Routine}
use prog.Wired.{Code, Wired}
use types.Logic.{Logic}
use contract.Lifetimes.{Lfts}
use contract.Monad.{fact}
use contract.Running.{Running}
use denote.Triple.Entry.{Args, Res}
use denote.Triple.Clauses.{Ended, Lasts, AtExit, closing}
use denote.Triple.Spec.{Meets}
use Rattle.grading.specs.Buffers.{Buffers, buffers_of}
use Rattle.grading.specs.Grading.{over}
use Rattle.grading.specs.Promise.{Answer, is_graded, number_of, place_of, counts_of}
use Rattle.grade_file.specs.contracts.grade.grade as grade
use Rattle.grade_file.proofs.grade.grade.Reads as grade_reads
use Rattle.grade_file.proofs.grade.grade.Symbol as grade_symbol
use Rattle.togyamiru.specs.contracts.togyamiru_grade as togyamiru_grade
use Rattle.togyamiru.proofs.togyamiru_grade.Reads as togyamiru_grade_reads
use Rattle.togyamiru.proofs.togyamiru_grade.Symbol as togyamiru_grade_symbol
use Rattle.togyamiru.specs.contracts.togyamiru_grade_numbers as togyamiru_grade_numbers
use Rattle.togyamiru.proofs.togyamiru_grade_numbers.Reads as togyamiru_grade_numbers_reads
use Rattle.togyamiru.proofs.togyamiru_grade_numbers.Symbol as togyamiru_grade_numbers_symbol
use Rattle.demands.specs.Calls.{Call, Kept, Refuses}
use Rattle.demands.specs.Determined.{MeetsDemands}

-- ---- any contract

-- of arguments, at any lifetimes: what is asked of them; and what is told of them, a result, and what was lent, at exit
abbrev pub AskedBy : Ended → Type 1
AskedBy F = (κs : Lfts F.signature.lifetimes) → Args F.signature κs → Type 0

abbrev pub ToldBy : Ended → Type 1
ToldBy F = (κs : Lfts F.signature.lifetimes) → Args F.signature κs → Res F.signature κs → AtExit F κs → Type 0

abbrev pub AsksNothing : (F : Ended) → AskedBy F → Type 0
AsksNothing F Asked = (κs : Lfts F.signature.lifetimes) (a : Args F.signature κs) → Asked κs a

-- what a caller sees at return: the result, and a last value for each thing that was lent to be written
abbrev pub AtReturn : (F : Ended) (κs : Lfts F.signature.lifetimes) → Args F.signature κs → Type 0
AtReturn F κs a = Res F.signature κs × Lasts F κs a

-- a routine, run on any arguments with nothing asked of them, ends, and then this is so
abbrev pub RoutineTells : (M : Type 1) → Routine → (F : Ended) → ToldBy F → Type 2
RoutineTells M routine F Told =
    (𝓤 : Ura M) (𝓛 : Logic 𝓤) (𝓜 : Model 𝓤 𝓛.H) (𝓡 : Running 𝓤 𝓛.H 𝓜)
    → Meets 𝓛 F.signature (𝓡.run routine)
    (closing 𝓛 F (λ κs a. record { ghost = Unit {0}; requires = λ g. emp 𝓤; ensures = λ g r e. fact 𝓤 (Told κs a r e) }))

-- and so does the code: the routine of this name in every environment that has it
abbrev pub CodeTells : (M : Type 1) → Code → Callee → (F : Ended) → ToldBy F → Type 2
CodeTells M code name F Told = (γ : Env) → Wired γ code → RoutineTells M (γ name) F Told

-- ---- `grade`

-- the call with these arguments, this result, and what was lent, at exit
abbrev pub call_of : (κs : Lfts 3) → Args grade.signature κs → Answer → AtExit grade.ended κs → Call
call_of κs a r e = record {
  file = a.0.now;
  before = buffers_of a.1.0.now a.1.1.0.now;
  answer = r;
  after = buffers_of e.1.0.now e.1.1.0.now;
}

pub record GradeIsKept : Type 2 where
  pub asks_nothing : AsksNothing grade.ended grade_reads.Asked
  pub keeps : (κs : Lfts 3) (a : Args grade.signature κs) (r : Answer) (e : AtExit grade.ended κs)
      → grade_reads.Learnt κs a r e → Kept (call_of κs a r e)
  pub routine_keeps : (M : Type 1) → CodeTells M grade_symbol.code grade_symbol.name grade.ended (λ κs a r e. Kept (call_of κs a r e))
  pub routine_meets_demands : (M : Type 1)
      → CodeTells M grade_symbol.code grade_symbol.name grade.ended (λ κs a r e. MeetsDemands (call_of κs a r e))

-- ---- the entries for C that grade: `togyamiru_c` exports each under the same clauses, by a call of the function that this speaks of

-- number, place, vectors, faults, classes, found
unfoldable pub six_of : Answer → List ℕ
six_of answer =
    number_of answer
    ∷ place_of answer
    ∷ (counts_of answer).vectors
    ∷ (counts_of answer).faults
    ∷ (counts_of answer).classes
    ∷ (counts_of answer).found
    ∷ []

-- and behind them the rounds
unfoldable pub numbers_of : Answer → List ℕ
numbers_of answer = six_of answer ++ ((counts_of answer).rounds ∷ [])

-- a call of `grade` that keeps its promise, on what an entry was given, and with the buffers as the entry leaves them
pub record CallOn (file : List ℕ) (before after : Buffers) : Type 0 where
  pub call : Call
  pub of_file : call.file ≡ file
  pub of_buffers : call.before ≡ before
  pub kept : Kept call
  pub to_buffers : call.after ≡ after

-- the six numbers of the entry are those of such a call; a refusal counts nothing, and a grading has no number and no place
pub record EntryIsCall (file : List ℕ) (before : Buffers) (six : List ℕ) (after : Buffers) : Type 0 where
  pub by : CallOn file before after
  pub six_numbers_lem : six ≡ six_of by.call.answer
  pub refusal_counts_nothing : (number place : ℕ) → Refuses by.call.answer number place
      → six ≡ number ∷ place ∷ 0 ∷ 0 ∷ 0 ∷ 0 ∷ []
  pub grading_refuses_nothing : T (is_graded by.call.answer) → let counts = counts_of by.call.answer in
      six ≡ 0 ∷ 0 ∷ counts.vectors ∷ counts.faults ∷ counts.classes ∷ counts.found ∷ []

-- the file and the buffers that the entry was given, its six numbers, and the buffers at exit
abbrev pub of_entry : (κs : Lfts 4) → Args togyamiru_grade.signature κs → AtExit togyamiru_grade.ended κs
    → (List ℕ → Buffers → List ℕ → Buffers → Type 0) → Type 0
of_entry κs a e Told =
    Told a.0.now (buffers_of a.1.0.now a.1.1.0.now) e.1.1.1.0.now (buffers_of e.1.0.now e.1.1.0.now)

pub record EntryIsKept : Type 2 where
  pub asks_nothing : AsksNothing togyamiru_grade.ended togyamiru_grade_reads.Asked
  pub is_call : (κs : Lfts 4) (a : Args togyamiru_grade.signature κs) (r : Unit {0}) (e : AtExit togyamiru_grade.ended κs)
      → togyamiru_grade_reads.Learnt κs a r e → of_entry κs a e EntryIsCall
  pub routine_is_call : (M : Type 1)
      → CodeTells M togyamiru_grade_symbol.code togyamiru_grade_symbol.name togyamiru_grade.ended (λ κs a r e. of_entry κs a e EntryIsCall)

-- the numbers of the entry for any count of them are those of such a call, as many as there is room for, and what stood behind them
pub record NumbersAreCall (file : List ℕ) (before : Buffers) (numbers numbers' : List ℕ) (after : Buffers) : Type 0 where
  pub by : CallOn file before after
  pub numbers_are : numbers' ≡ over (take (length numbers) (numbers_of by.call.answer)) numbers
  pub refusal_counts_nothing : (number place : ℕ) → Refuses by.call.answer number place
      → numbers' ≡ over (take (length numbers) (number ∷ place ∷ 0 ∷ 0 ∷ 0 ∷ 0 ∷ 0 ∷ [])) numbers
  pub grading_refuses_nothing : T (is_graded by.call.answer) → let counts = counts_of by.call.answer in
      let all : List ℕ = 0 ∷ 0 ∷ counts.vectors ∷ counts.faults ∷ counts.classes ∷ counts.found ∷ counts.rounds ∷ [] in
      numbers' ≡ over (take (length numbers) all) numbers

abbrev pub of_numbers : (κs : Lfts 4) → Args togyamiru_grade_numbers.signature κs → AtExit togyamiru_grade_numbers.ended κs
    → (List ℕ → Buffers → List ℕ → List ℕ → Buffers → Type 0) → Type 0
of_numbers κs a e Told =
    Told a.0.now (buffers_of a.1.0.now a.1.1.0.now) a.1.1.1.0.now e.1.1.1.0.now
    (buffers_of e.1.0.now e.1.1.0.now)

pub record NumbersAreKept : Type 2 where
  pub asks_nothing : AsksNothing togyamiru_grade_numbers.ended togyamiru_grade_numbers_reads.Asked
  pub is_call : (κs : Lfts 4) (a : Args togyamiru_grade_numbers.signature κs) (r : Unit {0}) (e : AtExit togyamiru_grade_numbers.ended κs)
      → togyamiru_grade_numbers_reads.Learnt κs a r e → of_numbers κs a e NumbersAreCall
  pub routine_is_call : (M : Type 1)
      → CodeTells M togyamiru_grade_numbers_symbol.code togyamiru_grade_numbers_symbol.name togyamiru_grade_numbers.ended
      (λ κs a r e. of_numbers κs a e NumbersAreCall)
