-- What the functions of the crate `join_nodes` rest on.
--   RoundLaws, WideRounds                          rounds of joining, over one word each and over several
--   RoundCounts                                    how many rounds add a node
--   GatePlanes, EdgeParts, RailWords               what ties the planes of gates, the parts of edges and the words of joining to the meaning
--   SettingBlocks, Check                           the complementary check, 64 settings at a time
--   Spreading                                      the used edges of a type's record
pub mod RoundLaws
pub mod WideRounds
pub mod RoundCounts
pub mod GatePlanes
pub mod EdgeParts
pub mod RailWords
pub mod SettingBlocks
pub mod Check
pub mod Spreading
