-- What the crate `grade_rows` computes.
pub mod Model
