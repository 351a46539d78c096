pub mod Hexadecimal
pub mod Ramps
pub mod Runs
pub mod Words
