-- The laws of rows as numbers: written piece by piece, those of one instance, and those of a circuit.
pub mod RowWriting
pub mod InstanceCodes
pub mod RowSteps
