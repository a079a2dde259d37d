-- Laws of decimal numbers, of a line that is made piece by piece, of how long lines are, of lines in a list, of a line given into a buffer,
-- of the pieces of a text and the loop that makes one, and of handing it over; other crates cite them.
pub mod DecimalLaws
pub mod LineLaws
pub mod LineSizes
pub mod LineList
pub mod Within
pub mod PieceLaws
pub mod PieceLoop
pub mod HandingLaws
