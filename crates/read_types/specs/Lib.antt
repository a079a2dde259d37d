-- What the functions of the crate `read_types` promise. What reading means is in the crate `circuit`.
pub mod EdgeTurns
pub mod ReadTypes
