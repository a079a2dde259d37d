-- What the crate `print_lines` means: decimal numbers, texts as bytes, a refusal's line, a line given into a buffer,
-- and numbered lines, given piece by piece and handed over.
pub mod Decimal
pub mod Ascii
pub mod Lines
pub mod Given
pub mod Pieces
pub mod Handing
