-- What grading means: the words of 01, "Faults, marks and classes", and of 02, "One wire, one short" and "How many rounds joining takes".
--   Values    label values by reference, outputs in file order
--   Rows      the faults of all instances, and when a row is marked under a vector
--   Wires     the wires that a bridge joins, what a wire carries, and when two leak
--   Classes   which rows are one class, class numbers, found classes
--   Rounds    the greatest distance of a joined node from its rail
--   Buffers   what a caller lends, and the room in it
--   Grading   the answer for given bytes and given room, and what it leaves in the buffers
--   Promise   the same of the code's answer; CircuitPromise, of a circuit in place of the file
--   Statements   the theorems on classes and on the promise
-- And what the crates that grade share: a row as a number, and what they ask of a circuit.
pub mod Values
pub mod Rows
pub mod Wires
pub mod Classes
pub mod Rounds
pub mod Buffers
pub mod Grading
pub mod Promise
pub mod CircuitPromise
pub mod Statements
pub mod Codes
pub mod Given
