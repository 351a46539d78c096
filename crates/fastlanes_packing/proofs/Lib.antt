pub mod Counts
pub mod PackedDigits
pub mod Reading
pub mod SingleDigits
pub mod Unpacking
pub mod Walking
pub mod Writing
