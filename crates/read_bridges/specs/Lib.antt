-- What the functions of the crate `read_bridges` promise. What reading means is in the crate `circuit`.
pub mod ReadBridges
pub mod ListSums
