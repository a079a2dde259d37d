-- The proofs of the entries for C and Rust.
pub mod Numbers
pub mod RowsLaws
