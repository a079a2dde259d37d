-- What holds inside one module, from meaning to statements; the code that computes it is in the crate `join_nodes`:
--   Conduction, Modules, Bridges   the words of 01; a reader needs these three
--   Deciding                       Boolean tests that compute what the three say of paths
--   Blocks                         a type judged over its settings 64 at a time
--   Distances                      the distance of a joined node from its rail, and the greatest; Depth, what works it out
--   Grouped                        edges of several transistors, as files had them before
--   Tags                           edges without the tag that they came with
--   Records, Promises              the code's records in those words, and the words that a caller is promised
--   Statements                     the theorems that all later crates rest on
--   Examples                       the NAND: a type that is accepted, and a record that the code takes
pub mod Conduction
pub mod Modules
pub mod Bridges
pub mod Deciding
pub mod Blocks
pub mod Distances
pub mod Grouped
pub mod Depth
pub mod Tags
pub mod Records
pub mod Promises
pub mod Statements
pub mod Examples
