-- What the crate `grade_marks` computes.
pub mod Model
