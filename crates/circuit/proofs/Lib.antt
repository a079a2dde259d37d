-- The laws of reading.
--   StageLaws, GatheredLaws, CircuitLaws, BeforeLaws, FaultLaws, AnswerLaws   the theorems of specs/Laws
--   Examples                                                                  01's examples, computed
--   the others                                                                what the crates that read cite
pub mod AnswerLaws
pub mod BeforeLaws
pub mod CircuitLaws
mod Examples
pub mod FaultLaws
pub mod GatheredLaws
pub mod Padding
pub mod RangeLaws
pub mod StageLaws
pub mod OrderLaws
pub mod Tested
pub mod TypeLaws
pub mod Verdicts
