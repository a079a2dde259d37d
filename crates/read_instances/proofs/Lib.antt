-- What the functions that read instances rest on.
pub mod InstanceLaws
pub mod InstanceSteps
pub mod InstancesOnce
pub mod ReferenceLaws
