pub mod RunLengths
pub mod RunSteps
