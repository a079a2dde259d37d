-- What the entries for C and Rust promise: `Entry` of a grading, `NumbersEntry` of one with as many numbers as a caller asks for,
-- `RowsEntry` of the rows as numbers; and what the code computes, under the last (`RowsModel`) and under all of them (`Asked`).
pub mod Entry
pub mod NumbersEntry
pub mod RowsEntry
pub mod RowsModel
pub mod Asked
