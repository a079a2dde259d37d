-- What the steps over a file rest on, and what the crates that read cite of them.
--   Cuts              the cut of a file at a place, by what stands there
--   Places            a cut tells its place, and so how a stage ended
--   Gathering         the fields of one stage, gathered one by one
--   KindLaws          what tells a field's kind, for the search
--   Stages            what was gathered tells a stage's elements, and how it ended
--   Turns             what a reader found at a turn of a stage, and where it stands then
pub mod Cuts
pub mod Gathering
pub mod KindLaws
pub mod Places
pub mod Stages
pub mod Turns
