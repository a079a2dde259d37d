-- What the functions of the crate `join_nodes` compute on the way. What they mean, and what the public ones promise, is in the crate
-- `switch`.
pub mod Model
