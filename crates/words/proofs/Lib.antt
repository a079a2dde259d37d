-- Laws on bits, packing, counting, rows of marks, lists made from functions and things with some words each, which other crates cite.
pub mod Laws
pub mod FirstOnes
pub mod Counting
pub mod Sums
pub mod Greatest
pub mod Rows
pub mod AnyMark
pub mod Tables
pub mod EachLaws
pub mod WrittenLaws
