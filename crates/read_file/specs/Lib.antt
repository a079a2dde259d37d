-- What the functions of the crate `read_file` promise of a file's start, the answer put together from the stages, and the promise of
-- `read_stages`. What reading means, and the promise of `read`, are in the crate `circuit`.
pub mod ReadStages
pub mod Whole
