-- 01, "Refusal numbers": for each case of the code's refusal the paper's number and place, and so the verdict that it stands for.
use Rattle.std.specs.Prelude.{ℕ, Option, Some, None}
use Rattle.circuit.specs.Table.{Verdict, passes, refused_at}
use Rattle.circuit.specs.declared.refusal.Refusal.{Refusal}
use Rattle.circuit.specs.declared.refusal.Refusal.TheVariants.{TooLong, Broken, UnknownTag, Misplaced, WrongLength, TooMany}
use Rattle.circuit.specs.declared.refusal.Refusal.TheVariants.{OutOfRange, BadEnds, NotComplementary, BadReference, BridgeUnsuited}
use Rattle.circuit.specs.declared.refusal.Refusal.TheVariants.{EmptyList, TooManyFaults, Unfinished}

abbrev pub refusal_number : Refusal → ℕ
refusal_number TooLong = 1
refusal_number (Broken at) = 2
refusal_number (UnknownTag at) = 3
refusal_number (Misplaced at) = 4
refusal_number (WrongLength at) = 5
refusal_number (TooMany at) = 6
refusal_number (OutOfRange at) = 7
refusal_number (BadEnds at) = 8
refusal_number (NotComplementary at) = 9
refusal_number (BadReference at) = 10
refusal_number (BridgeUnsuited at) = 11
refusal_number (EmptyList at) = 12
refusal_number (TooManyFaults at) = 13
refusal_number (Unfinished at) = 14

abbrev pub refusal_place : Refusal → ℕ
refusal_place TooLong = 0
refusal_place (Broken at) = at
refusal_place (UnknownTag at) = at
refusal_place (Misplaced at) = at
refusal_place (WrongLength at) = at
refusal_place (TooMany at) = at
refusal_place (OutOfRange at) = at
refusal_place (BadEnds at) = at
refusal_place (NotComplementary at) = at
refusal_place (BadReference at) = at
refusal_place (BridgeUnsuited at) = at
refusal_place (EmptyList at) = at
refusal_place (TooManyFaults at) = at
refusal_place (Unfinished at) = at

-- the verdict of a refusal, or of none
abbrev pub verdict_of : Option Refusal → Verdict
verdict_of None = passes
verdict_of (Some r) = refused_at (refusal_number r) (refusal_place r)
