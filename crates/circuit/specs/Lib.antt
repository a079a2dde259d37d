-- What the crate `circuit` means, from meaning to model:
--   Limits, Fields, Circuit, Numbers   the circuit file of 01: its limits, its cut into fields, its circuit, its signed numbers
--   Order                              the kinds of field, and what each may follow
--   Known                              what is known part of the way through a file, and what a field adds
--   Table                              the refusal table, a list of numbered tests for each field and for the end of the file
--   Reading                            a file's circuit or refusal: the fields in file order against the table
--   Records, Answers                   the code's records and answers in those words; the promise of `read`
--   Before                             what was read of a file before the field by which it is refused
--   Laws                               theorems on reading, each with its name
--   Stages                             how the code reads, stage by stage, and what it has gathered where it ends
pub mod Limits
pub mod Fields
pub mod Circuit
pub mod Numbers
pub mod Order
pub mod Kinds
pub mod Known
pub mod Table
pub mod Reading
pub mod Records
pub mod Refusals
pub mod Verdicts
pub mod Answers
pub mod Before
pub mod Laws
pub mod Stages
