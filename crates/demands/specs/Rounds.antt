-- 02, "How many rounds joining takes", on files. The rounds of an answer are the greatest distance, in on edges along a shortest path, of
-- any joined node from its rail, over all instances and vectors; they are what the joining step counts. In a type with the highest node h
-- no distance is above h - 1. Which faults are listed changes nothing, and vectors added at the end do not lower the number. Filling an X
-- may: an edge that is on then can be a shorter way. The proofs are in proofs/RoundsProof; computed results are `RoundsKnown`
-- (RoundResults), wrong ways to count are in WrongRounds.
use Rattle.std.specs.Prelude.{ℕ, ◌-◌, ◌≤◌, ◌<◌, ◌≡◌, List, ◌++◌, map, length}
use contract.Lifetimes.{Lfts}
use denote.Triple.Entry.{Args}
use denote.Triple.Clauses.{AtExit}
use Rattle.words.specs.Bits.{greatest_to}
use Rattle.switch.specs.Conduction.{Value}
use Rattle.switch.specs.Distances.{GreatestIs}
use Rattle.switch.specs.Promises.{four_rounds}
use Rattle.switch.specs.Records.{type_of}
use Rattle.switch.specs.Statements.{DistanceUnder}
use Rattle.switch.specs.declared.Rails.{Rails}
use Rattle.join_nodes.specs.contracts.rails.join_type as join_type
use Rattle.join_nodes.proofs.rails.join_type.Reads as join_type_reads
use Rattle.circuit.specs.Circuit.{Circuit, Instance, Reference}
use Rattle.grading.specs.Rounds.{type_at, DistanceIn, PlanesAt}
use Rattle.grading.specs.Promise.{counts_of}
use Rattle.demands.specs.Calls.{Call, Accepts, GradedAs}
use Rattle.demands.specs.Two.{AlikeButVectors}
use Rattle.demands.specs.Three.{Refined}

-- ---- the rounds of an answer

abbrev pub rounds_given : Call → ℕ
rounds_given call = (counts_of call.answer).rounds

abbrev pub RoundsTold : Call → Circuit → Type 0
RoundsTold call c = GreatestIs (DistanceIn c) (rounds_given call)

abbrev pub RoundsAreTheGreatestDistance : Type 0
RoundsAreTheGreatestDistance = (call : Call) (c : Circuit) → GradedAs call c → RoundsTold call c

-- ---- the joining step

-- for each instance the number that the step gives, over any planes that hold the values of its labels; of these numbers the greatest is
-- that of the report. It is the step's count of rounds that added a node: as many add one (`RoundsAddNodes` of `switch`), and those the
-- code counts, by the contract of its loop (`WideJoined` in `join_nodes/specs/Model`)
abbrev pub StepsCountTheRounds : Type 0
StepsCountTheRounds =
    (call : Call) (c : Circuit) → GradedAs call c → (ones zeros : ℕ → List ℕ)
    → ((i : ℕ) → i < length c.instances → PlanesAt c i (ones i) (zeros i))
    → rounds_given call ≡ greatest_to (length c.instances) (λ (i : ℕ). four_rounds (type_at c i) (ones i) (zeros i))

-- and the contract of the whole step: what `join_type` answers is the greatest distance over the 256 places that its planes have
abbrev pub JoiningCountsDistances : Type 0
JoiningCountsDistances =
    (κs : Lfts 2) (a : Args join_type.signature κs) (r : Rails) (e : AtExit join_type.ended κs)
    → join_type_reads.Asked κs a → join_type_reads.Learnt κs a r e
    → GreatestIs (DistanceUnder (type_of a.0) a.1.0.now a.1.1.0.now) r.rounds

-- ---- how many they can be

pub record RoundsAreFew : Type 0 where
  -- a distance in an instance whose type has the highest node h is at most h - 1
  pub below_highest : (file : List ℕ) (c : Circuit) → Accepts file c
      → (d : ℕ) (at : DistanceIn c d) → d ≤ (type_at c at.instance).highest - 1
  -- so where no instance's type has a node above h, the rounds are at most h - 1
  pub at_most : (call : Call) (c : Circuit) → GradedAs call c → (h : ℕ) → ((i : ℕ) → i < length c.instances → (type_at c i).highest ≤ h)
      → rounds_given call ≤ h - 1
  -- so is the count of the joining step in one instance, over planes that hold the values of its labels. Planes that contradict each other
  -- could join the rails, and then it could reach h
  pub step : (call : Call) (c : Circuit) → GradedAs call c → (i : ℕ) → i < length c.instances → (ones zeros : List ℕ)
      → PlanesAt c i ones zeros → four_rounds (type_at c i) ones zeros ≤ (type_at c i).highest - 1

-- ---- what they hang on

-- what joining sees of an instance: its type and its references, and not its choice
unfoldable pub wiring : Instance → ℕ × List Reference
wiring i = (i.type, i.references)

-- the same types, instances that are wired alike, and the same vectors, with any bridges and any choices
pub record AlikeButFaults (c d : Circuit) : Type 0 where
  pub types : c.types ≡ d.types
  pub wired : map wiring c.instances ≡ map wiring d.instances
  pub vectors : c.vectors ≡ d.vectors

abbrev pub RoundsAskForNoFaults : Type 0
RoundsAskForNoFaults =
    (one other : Call) (c d : Circuit) → GradedAs one c → GradedAs other d → AlikeButFaults c d → rounds_given one ≡ rounds_given other

abbrev pub MoreVectorsNoFewerRounds : Type 0
MoreVectorsNoFewerRounds =
    (one other : Call) (c d : Circuit) → GradedAs one c → GradedAs other d → AlikeButVectors c d
    → (more : List (List Value)) → d.vectors ≡ c.vectors ++ more → rounds_given one ≤ rounds_given other

-- where X's are filled the number may fall: this would say that it does not
abbrev pub FillingKeepsRounds : Type 0
FillingKeepsRounds =
    (one finer : Call) (c d : Circuit) → GradedAs one c → GradedAs finer d → AlikeButVectors c d → Refined c.vectors d.vectors
    → rounds_given one ≤ rounds_given finer

abbrev pub FillingMayLowerRounds : Type 0
FillingMayLowerRounds = FillingKeepsRounds → ⊥
