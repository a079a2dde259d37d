-- The types that the bench judges.
pub mod Judged
