-- What the code does with verdicts: whether one refuses, one test more after those before it, and the refusal of what is judged as it is
-- read.
use Rattle.std.specs.Prelude.{Bool, true, false, cond, Option, Some, None, Result, Ok, Err}
use Rattle.circuit.specs.Table.{Verdict, passes, refused_at}
use Rattle.circuit.specs.declared.refusal.Refusal.{Refusal}

unfoldable pub is_refused : Verdict → Bool
is_refused passes = false
is_refused (refused_at number place) = true

-- a verdict so far, and after it one more test with its verdict
unfoldable pub or_if : Verdict → Bool → Verdict → Verdict
or_if passes refuses this = cond refuses this passes
or_if (refused_at number place) refuses this = refused_at number place

-- the refusal of a field that gives something or is refused
abbrev pub refusal_of : {A : Type 0} → Result A Refusal → Option Refusal
refusal_of (Ok a) = None
refusal_of (Err r) = Some r
