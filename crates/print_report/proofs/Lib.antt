-- The lines of 01's example; the laws of a row's digits in a line, of the lines of what is held, and that these are the report's.
pub mod LineSizes
pub mod HeldLaws
pub mod ReportLaws
pub mod HeldIsReport
pub mod Examples
