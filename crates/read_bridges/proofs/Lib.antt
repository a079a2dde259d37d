-- What the functions that read bridges and sum their lists rest on.
pub mod BridgeLaws
pub mod BridgesOnce
pub mod ListLaws
