-- What the crate `grade_classes` computes.
pub mod Model
