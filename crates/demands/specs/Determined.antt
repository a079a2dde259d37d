-- The demands and the promise of `grade` say the same of a call: one that keeps the promise meets them, and they leave one outcome only, so
-- that one that meets them keeps the promise. The proofs are in proofs/Determines.
use Rattle.std.specs.Prelude.{ℕ, ◌^◌, ◌<◌, ◌≡◌, ◌↔◌, List, T, get_or}
use Rattle.circuit.specs.Circuit.{Circuit}
use Rattle.grading.specs.Promise.{is_graded}
use Rattle.demands.specs.Calls.{Call, Kept, Accepts}
use Rattle.demands.specs.One.{One, SameOutcome, RestKept}
use Rattle.demands.specs.Two.{CellsTell, ClassesTell}
use Rattle.demands.specs.Rounds.{RoundsTold}

-- what is demanded of one call: demand 1 and, where it graded, the cells and the classes of demand 2, the rounds, and that the rest is kept
pub record MeetsDemands (call : Call) : Type 0 where
  pub one : One call
  pub cells : (c : Circuit) → Accepts call.file c → T (is_graded call.answer) → CellsTell call c
  pub classes : (c : Circuit) → Accepts call.file c → T (is_graded call.answer) → ClassesTell call c
  pub rounds : (c : Circuit) → Accepts call.file c → T (is_graded call.answer) → RoundsTold call c
  pub rest : (c : Circuit) → Accepts call.file c → T (is_graded call.answer) → RestKept call c

-- a word has 64 bits, as the code's words have: of a larger number the cells would not tell all
abbrev pub AreWords : List ℕ → Type 0
AreWords numbers = (i : ℕ) → get_or numbers i 0 < 2 ^ 64

-- two calls on the same file and buffers that meet the demands have the same answer and leave the same in the buffers
abbrev pub DemandsLeaveOneOutcome : Type 0
DemandsLeaveOneOutcome =
    (one other : Call) → AreWords one.after.matrix → AreWords other.after.matrix → MeetsDemands one → MeetsDemands other
    → one.file ≡ other.file → one.before ≡ other.before → SameOutcome one other

abbrev pub DemandsAreThePromise : Type 0
DemandsAreThePromise = (call : Call) → AreWords call.after.matrix → MeetsDemands call ↔ Kept call
