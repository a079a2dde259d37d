-- The laws of signals, that the words written are the rows of the matrix, and that the rounds told are the instance's.
pub mod Parts
pub mod SignalLaws
pub mod OutputLaws
pub mod SignalMeaning
pub mod RowMeaning
pub mod RoundMeaning
