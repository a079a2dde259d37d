-- What the crate `words` means: bits and packing, lists made from functions, things with some words each, rows of marks; and the laws on
-- them that other crates rest on.
pub mod Bits
pub mod Each
pub mod Rows
pub mod Tables
pub mod Written
pub mod Statements
