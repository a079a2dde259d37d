-- What the function that reads vectors promises. What reading means is in the crate `circuit`.
pub mod ReadVectors
