-- The proofs of the statements in specs/, and what they share: Gave, what a call that graded its file gave; Computing, what a proof by
-- computation unfolds.
--   demand 1      Verdicts, GradingVerdicts, OneProof, Outcomes, RightProof
--   demand 2      SettledValues, Cells, Floating, Columns, RowFaults, OneClass, FoundClasses, ClassCounts, ClassesCarried, NamedAgain
--   wires         WireTies, WiresBefore, SharedShorts, OneWireProof, AlikeLists, ShortsCounted, WireExamples
--   demand 3      Refining, RefinedMarks, NoConverseProof
--   of two files  WholeFields, AlikeFilesProof, FileSplits, OtherVectors, Fillings, AlikeFilesExamples
--   one outcome   CellsAgree, ClassesAgree, Determines
--   number 9      ModuleCheckProof
--   transistors   GroupsGrade, GroupsRead, SingleTransistorsProof; by computing WrongEdges
--   channels      PassTransistorsProof, TagsGraded, PassesBefore; by computing WrongPasses
--   rounds        RoundsProof; by computing WrongRoundsProof, RoundsKnownProof
--   contracts     CodeCallsProof, CircuitCallsProof, StepsOnce, CanBeMet, UniqueProof, MetProof
--   all of them   AllProofs
--   by computing  KnownProof, PassKnownProof, WrongProof, BreaksProof; MeetsProof, what the demands do not break
pub mod Gave
pub mod Verdicts
pub mod GradingVerdicts
pub mod OneProof
pub mod Outcomes
pub mod SettledValues
pub mod Cells
pub mod Floating
pub mod Columns
pub mod RowFaults
pub mod OneClass
pub mod FoundClasses
pub mod ClassCounts
pub mod ClassesCarried
pub mod AlikeLists
pub mod ShortsCounted
pub mod WireExamples
pub mod NamedAgain
pub mod WireTies
pub mod WiresBefore
pub mod SharedShorts
pub mod OneWireProof
pub mod Refining
pub mod RefinedMarks
pub mod WholeFields
pub mod AlikeFilesProof
pub mod FileSplits
pub mod OtherVectors
pub mod Fillings
pub mod AlikeFilesExamples
pub mod Computing
pub mod RightProof
pub mod KnownProof
pub mod PassKnownProof
pub mod RoundsKnownProof
pub mod NoConverseProof
pub mod WrongProof
pub mod BreaksProof
pub mod MeetsProof
pub mod WrongRoundsProof
pub mod ModuleCheckProof
pub mod GroupsGrade
pub mod TagsGraded
pub mod PassTransistorsProof
pub mod PassesBefore
pub mod GroupsRead
pub mod SingleTransistorsProof
pub mod WrongEdges
pub mod WrongPasses
pub mod RoundsProof
pub mod CellsAgree
pub mod ClassesAgree
pub mod Determines
pub mod StepsOnce
pub mod CanBeMet
pub mod UniqueProof
pub mod CodeCallsProof
pub mod CircuitCallsProof
pub mod MetProof
pub mod AllProofs
