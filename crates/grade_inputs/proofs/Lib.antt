-- What ties the inputs' planes to the vectors' words: lists as the code fills them, and a square of bits turned over step by step.
pub mod InputLaws
pub mod Made
pub mod TurnLaws
