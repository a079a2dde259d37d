-- What the functions of the crate `read_instances` promise. What reading means is in the crate `circuit`.
pub mod Choices
pub mod ReadInstances
pub mod Turns
