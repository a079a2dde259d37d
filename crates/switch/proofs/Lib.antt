-- The laws of conduction, from paths to values in planes.
--   Paths, Channels, Deciding, MoreOn,
--   Apart, Marks, Refinement, KnownOutputs            the statements of specs/Statements on paths
--   Blocks                                            blocks of settings tell what all of them do
--   Groups                                            groups of transistors link what their edges do
--   Reach, Depths                                     how far paths reach, and that depth is the greatest distance
--   Tags                                              tags conduct nothing
--   Ranges                                            what a record tells that a file can give
--   DepthBounds                                       how many rounds joining takes, and at most how many
--   Outputs                                           the statements on planes
--   Examples                                          a type that is accepted, and a record that the code takes
pub mod Paths
pub mod Channels
pub mod Deciding
pub mod Blocks
pub mod Groups
pub mod Reach
pub mod Depths
pub mod Tags
pub mod MoreOn
pub mod Apart
pub mod Marks
pub mod Refinement
pub mod KnownOutputs
pub mod Ranges
pub mod DepthBounds
pub mod Outputs
pub mod Examples
