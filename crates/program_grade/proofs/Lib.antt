-- The laws of the rows that were read, and of a file's report as it is handed over.
pub mod RowsReadLaws
pub mod HandingLaws
