-- What the crate `grade_inputs` computes.
pub mod Inputs
pub mod Turning
