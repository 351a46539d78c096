pub mod Failures
pub mod Refusals
pub mod Transfer
pub mod Pages
pub mod Single
