-- What the crate `print_report` means: the lines of 01, "The report", as bytes, and the whole report, which is given piece by piece.
pub mod Lines
pub mod Report
pub mod Held
pub mod Promise
