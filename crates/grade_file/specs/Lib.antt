-- What the crate `grade_file` computes.
pub mod Model
