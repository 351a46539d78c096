pub mod Errors
pub mod Format
pub mod Next
pub mod Starts
mod Written
