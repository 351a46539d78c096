pub mod Failures
pub mod Columns
pub mod Elements
pub mod Rounded
pub mod Runs
pub mod Stops
