pub mod Column
pub mod Differences
pub mod Heads
pub mod LeastWidth
