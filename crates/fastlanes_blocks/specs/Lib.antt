pub mod Blocks
pub mod Comparisons
pub mod Ranges
pub mod Sums
pub mod Walks
