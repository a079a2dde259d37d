-- What reading as a whole rests on.
pub mod ReadLaws
pub mod StagesOnce
