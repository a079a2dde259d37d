-- What the program `show` hands to standard output.
pub mod Handing
