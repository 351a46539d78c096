pub mod Counted
pub mod Digits
pub mod Element
pub mod Memory
pub mod Order
pub mod Sinks
pub mod Tile
