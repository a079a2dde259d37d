-- What the crate `program_io` promises: all but what comes from outside, which is bytes read, arguments, and whether a read or a write
-- failed.
pub mod Inputs
pub mod Outputs
pub mod Telling
