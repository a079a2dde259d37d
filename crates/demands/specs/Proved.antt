-- All that is stated of the grader, in one record: a field for each statement that docs/TRUST.md cites. `all_proved` (proofs/AllProofs) has
-- this type, so a statement whose proof is gone, or proves something else, is refused; .ci/parts/8-trust holds docs/TRUST.md to the fields.
use Rattle.switch.specs.Blocks.{BlocksTell}
use Rattle.switch.specs.Grouped.{GroupsLinkAlike}
use Rattle.switch.specs.Tags.{TagsConductNothing}
use Rattle.switch.specs.Statements.{OneGreatest, DepthIsDistance, RoundsAddNodes, RoundsAreDistances, AtMostBelowHighest}
use Rattle.circuit.specs.Laws.{GatheredIsBefore, BeforeIsCircuit}
use Rattle.grading.specs.Statements.{RoundsTell}
use Rattle.print_lines.specs.Pieces.{OnePiece, PiecesJoin, PieceMoves}
use Rattle.print_report.specs.Promise.{ReportIsLines, LinesFit, RowsAreHeld}
use Rattle.print_circuit.specs.Told.{ToldIsReading, ToldIsListing}
use Rattle.print_circuit.specs.Listing.{AcceptedListing}
use Rattle.demands.specs.One.{OneHolds, PromiseCanBeMet, OneOutcomeOnly, GradingKeepsTheRest}
use Rattle.demands.specs.Two.{ValuesArePaths, CellIsPath, FloatingNeverMarks, ColumnIsOfItsVector}
use Rattle.demands.specs.Two.{ClassesCountOnce, NamingAgainAddsNothing, OtherEndAddsNothing}
use Rattle.demands.specs.OneWire.{WiresAreTies, ClassesAreTies, EndsAreTwoWires, InOneInstanceAsBefore, SharedShortsAreAtARail}
use Rattle.demands.specs.OneWire.{OneWireOneLevel, MarksAreOfWires, OneShortOneMark}
use Rattle.demands.specs.OneWire.{RowsOfOneClassAreEqual, MoreShortsCountNoFewer, SameShortsCountAlike, ShortsNamedElsewhere}
use Rattle.demands.specs.Three.{ThreeHolds, MarksHoldUnderEveryFilling}
use Rattle.demands.specs.NoConverse.{NoConverse}
use Rattle.demands.specs.AlikeFiles.{AlikeFilesReadAlike, FinerFilesReadRefined, RowsAreOfTheHead, ColumnIsOfItsField}
use Rattle.demands.specs.AlikeFiles.{ThreeHoldsOfFiles, MarksHoldInEveryFilledFile, FillingsAreGraded, RefinementsAreGraded}
use Rattle.demands.specs.AlikeFiles.{NandRefined}
use Rattle.demands.specs.SplitFiles.{AcceptedIsSplit, SplitOnce, OtherVectorsAreAccepted, FillingsAreAccepted, NotAnyHead}
use Rattle.demands.specs.Determined.{DemandsLeaveOneOutcome, DemandsAreThePromise}
use Rattle.demands.specs.ModuleCheck.{NineAsBefore, WrongChecksAreWrong}
use Rattle.demands.specs.SingleTransistors.{AnsweredAsBefore, AcceptedAsBefore, GroupedFieldsRead, WrongEdgesAreWrong}
use Rattle.demands.specs.PassTransistors.{TypesAreFields, EndsKeepTheRules, RailsApartInFiles, TagsChangeNoAnswer, OnlyPassesChange}
use Rattle.demands.specs.PassTransistors.{NumbersOfEdges, PassFieldsRead, WrongPassesAreWrong}
use Rattle.demands.specs.Rounds.{RoundsAreTheGreatestDistance, StepsCountTheRounds, JoiningCountsDistances, RoundsAreFew}
use Rattle.demands.specs.Rounds.{RoundsAskForNoFaults, MoreVectorsNoFewerRounds, FillingMayLowerRounds}
use Rattle.demands.specs.WrongRounds.{WrongRoundsAreWrong}
use Rattle.demands.specs.CodeCalls.{GradeIsKept, EntryIsKept, NumbersAreKept}
use Rattle.demands.specs.CircuitCalls.{CircuitIsGradedAsFile, CircuitAnswersAsFile, GradeCircuitIsKept}
use Rattle.demands.specs.CircuitCalls.{CircuitsMeetTwo, CircuitColumnIsOfItsVector, CircuitsMeetThree}
use Rattle.demands.specs.Unique.{Unique}
use Rattle.demands.specs.Met.{MetByEveryFile}
use Rattle.demands.specs.KnownResults.{AllKnown, EdgesKnown}
use Rattle.demands.specs.PassResults.{PassesKnown}
use Rattle.demands.specs.RoundResults.{RoundsKnown}
use Rattle.demands.specs.Graders.{RightlyIsRight}
use Rattle.demands.specs.Wrong.{RefusesEveryIsWrong, SkipsNineIsWrong, SkipsFourteenIsWrong, MarksAllIsWrong, MarksNeverIsWrong}
use Rattle.demands.specs.Wrong.{LeavesMatrixIsWrong, FirstWordOnlyIsWrong, InventsFoundIsWrong, SweepsOnceIsWrong, OnePlaneIsWrong}
use Rattle.demands.specs.Wrong.{MarksFloatingIsWrong, CountsRowsIsWrong, SpillsIsWrong, WrapsIsWrong, GoesOnIsWrong}
use Rattle.demands.specs.Wrong.{WatchesOutputsIsWrong, HoldsLevelsIsWrong, CountsTwiceIsWrong, CountsLabelsIsWrong}
use Rattle.demands.specs.Wrong.{ReadsXAsZeroIsWrong, KeepsApartIsWrong, MixesInnerIsWrong, SplitsInputsIsWrong}
use Rattle.demands.specs.Wrong.{WritesPastIsWrong, ClearsFirstIsWrong}
use Rattle.demands.specs.Breaks.{RightlyMeetsAll, MeetDemandOne, MeetCellClause, MeetDemandThree}
use Rattle.demands.specs.Breaks.{BreakDemandOne, BreakDemandTwo, BreakDemandThree}

pub record AllProved : Type 2 where
  -- demand 1
  pub one_holds : OneHolds
  pub promise_can_be_met : PromiseCanBeMet
  pub one_outcome_only : OneOutcomeOnly
  pub grading_keeps_the_rest : GradingKeepsTheRest
  -- demand 2
  pub values_are_paths : ValuesArePaths
  pub cell_is_path : CellIsPath
  pub floating_never_marks : FloatingNeverMarks
  pub column_is_of_its_vector : ColumnIsOfItsVector
  pub classes_count_once : ClassesCountOnce
  pub naming_again_adds_nothing : NamingAgainAddsNothing
  pub other_end_adds_nothing : OtherEndAddsNothing
  -- 02, "One wire, one short"
  pub wires_are_ties : WiresAreTies
  pub classes_are_ties : ClassesAreTies
  pub ends_are_two_wires : EndsAreTwoWires
  pub in_one_instance_as_before : InOneInstanceAsBefore
  pub shared_shorts_are_at_a_rail : SharedShortsAreAtARail
  pub one_wire_one_level : OneWireOneLevel
  pub marks_are_of_wires : MarksAreOfWires
  pub one_short_one_mark : OneShortOneMark
  pub rows_of_one_class_are_equal : RowsOfOneClassAreEqual
  pub more_shorts_count_no_fewer : MoreShortsCountNoFewer
  pub same_shorts_count_alike : SameShortsCountAlike
  pub shorts_named_elsewhere : ShortsNamedElsewhere
  -- demand 3
  pub three_holds : ThreeHolds
  pub marks_hold_under_every_filling : MarksHoldUnderEveryFilling
  pub no_converse : NoConverse
  -- demand 3 and the columns of two files
  pub alike_files_read_alike : AlikeFilesReadAlike
  pub finer_files_read_refined : FinerFilesReadRefined
  pub rows_are_of_the_head : RowsAreOfTheHead
  pub column_is_of_its_field : ColumnIsOfItsField
  pub three_holds_of_files : ThreeHoldsOfFiles
  pub marks_hold_in_every_filled_file : MarksHoldInEveryFilledFile
  pub fillings_are_accepted : FillingsAreAccepted
  pub fillings_are_graded : FillingsAreGraded
  pub refinements_are_graded : RefinementsAreGraded
  pub other_vectors_are_accepted : OtherVectorsAreAccepted
  pub accepted_is_split : AcceptedIsSplit
  pub split_once : SplitOnce
  pub not_any_head : NotAnyHead
  pub nand_refined : NandRefined
  -- the demands and the promise
  pub demands_leave_one_outcome : DemandsLeaveOneOutcome
  pub demands_are_the_promise : DemandsAreThePromise
  -- types judged by blocks of settings
  pub blocks_tell : BlocksTell
  pub nine_as_before : NineAsBefore
  pub wrong_checks_are_wrong : WrongChecksAreWrong
  -- an edge for each transistor
  pub groups_link_alike : GroupsLinkAlike
  pub answered_as_before : AnsweredAsBefore
  pub accepted_as_before : AcceptedAsBefore
  pub grouped_fields_read : GroupedFieldsRead
  pub edges_known : EdgesKnown
  pub wrong_edges_are_wrong : WrongEdgesAreWrong
  -- pass transistors
  pub types_are_fields : TypesAreFields
  pub ends_keep_the_rules : EndsKeepTheRules
  pub rails_apart_in_files : RailsApartInFiles
  pub tags_conduct_nothing : TagsConductNothing
  pub tags_change_no_answer : TagsChangeNoAnswer
  pub only_passes_change : OnlyPassesChange
  pub numbers_of_edges : NumbersOfEdges
  pub pass_fields_read : PassFieldsRead
  pub passes_known : PassesKnown
  pub wrong_passes_are_wrong : WrongPassesAreWrong
  -- 02, "How many rounds joining takes"
  pub one_greatest : OneGreatest
  pub depth_is_distance : DepthIsDistance
  pub rounds_add_nodes : RoundsAddNodes
  pub rounds_are_distances : RoundsAreDistances
  pub at_most_below_highest : AtMostBelowHighest
  pub rounds_tell : RoundsTell
  pub rounds_are_the_greatest_distance : RoundsAreTheGreatestDistance
  pub steps_count_the_rounds : StepsCountTheRounds
  pub joining_counts_distances : JoiningCountsDistances
  pub rounds_are_few : RoundsAreFew
  pub rounds_ask_for_no_faults : RoundsAskForNoFaults
  pub more_vectors_no_fewer_rounds : MoreVectorsNoFewerRounds
  pub filling_may_lower_rounds : FillingMayLowerRounds
  pub rounds_known : RoundsKnown
  pub wrong_rounds_are_wrong : WrongRoundsAreWrong
  -- the code
  pub grade_is_kept : GradeIsKept
  pub entry_is_kept : EntryIsKept
  pub numbers_are_kept : NumbersAreKept
  pub grade_circuit_is_kept : GradeCircuitIsKept
  pub circuit_is_graded_as_file : CircuitIsGradedAsFile
  pub circuit_answers_as_file : CircuitAnswersAsFile
  pub circuits_meet_two : CircuitsMeetTwo
  pub circuit_column_is_of_its_vector : CircuitColumnIsOfItsVector
  pub circuits_meet_three : CircuitsMeetThree
  pub unique : Unique
  pub met_by_every_file : MetByEveryFile
  -- what the programs print, and what was read before a refusal
  pub one_piece : OnePiece
  pub pieces_join : PiecesJoin
  pub piece_moves : PieceMoves
  pub report_is_lines : ReportIsLines
  pub lines_fit : LinesFit
  pub rows_are_held : RowsAreHeld
  pub told_is_reading : ToldIsReading
  pub told_is_listing : ToldIsListing
  pub accepted_listing : AcceptedListing
  pub gathered_is_before : GatheredIsBefore
  pub before_is_circuit : BeforeIsCircuit
  -- known results
  pub all_known : AllKnown
  -- a right grader, and wrong ones
  pub rightly_is_right : RightlyIsRight
  pub refuses_every_is_wrong : RefusesEveryIsWrong
  pub skips_nine_is_wrong : SkipsNineIsWrong
  pub skips_fourteen_is_wrong : SkipsFourteenIsWrong
  pub marks_all_is_wrong : MarksAllIsWrong
  pub marks_never_is_wrong : MarksNeverIsWrong
  pub leaves_matrix_is_wrong : LeavesMatrixIsWrong
  pub first_word_only_is_wrong : FirstWordOnlyIsWrong
  pub invents_found_is_wrong : InventsFoundIsWrong
  pub sweeps_once_is_wrong : SweepsOnceIsWrong
  pub one_plane_is_wrong : OnePlaneIsWrong
  pub marks_floating_is_wrong : MarksFloatingIsWrong
  pub counts_rows_is_wrong : CountsRowsIsWrong
  pub spills_is_wrong : SpillsIsWrong
  pub wraps_is_wrong : WrapsIsWrong
  pub goes_on_is_wrong : GoesOnIsWrong
  pub watches_outputs_is_wrong : WatchesOutputsIsWrong
  pub holds_levels_is_wrong : HoldsLevelsIsWrong
  pub counts_twice_is_wrong : CountsTwiceIsWrong
  pub counts_labels_is_wrong : CountsLabelsIsWrong
  pub reads_x_as_zero_is_wrong : ReadsXAsZeroIsWrong
  pub keeps_apart_is_wrong : KeepsApartIsWrong
  pub mixes_inner_is_wrong : MixesInnerIsWrong
  pub splits_inputs_is_wrong : SplitsInputsIsWrong
  pub writes_past_is_wrong : WritesPastIsWrong
  pub clears_first_is_wrong : ClearsFirstIsWrong
  pub rightly_meets_all : RightlyMeetsAll
  pub meet_demand_one : MeetDemandOne
  pub meet_cell_clause : MeetCellClause
  pub meet_demand_three : MeetDemandThree
  pub break_demand_one : BreakDemandOne
  pub break_demand_two : BreakDemandTwo
  pub break_demand_three : BreakDemandThree
