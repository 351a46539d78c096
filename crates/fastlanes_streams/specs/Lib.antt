pub mod Slices
pub mod Counted
pub mod Stream
