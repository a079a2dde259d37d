-- What the functions that read types and edges rest on.
pub mod ReadingTypes
pub mod TypeStages
pub mod TypesOnce
mod EdgeBytes
