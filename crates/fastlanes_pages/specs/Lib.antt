pub mod Values
pub mod ColumnValues
pub mod Blocks
pub mod Shortest
pub mod Encoded
pub mod Masks
pub mod Heads
