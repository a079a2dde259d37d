-- What the crate `print_circuit` means: the lines that `show` prints (docs/SHOW.md).
--   Lines     each line as bytes
--   Listing   the lines of a whole file, in file order
--   Told      the reading that the code's record tells, and its listing
--   Promise   the promise of `show_piece`
--   Sought    what the functions below it promise: a line that is sought by its number
pub mod Lines
pub mod Listing
pub mod Told
pub mod Promise
pub mod Sought
