-- What the program `grade` hands to standard output, and what it holds of a file.
pub mod Handing
pub mod Held
pub mod Told
