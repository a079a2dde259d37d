-- What the crate `read_fields` promises. The cut of a file into fields is in the crate `circuit`.
pub mod Steps
pub mod Gathers
