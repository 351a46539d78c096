pub mod Comparisons
pub mod Flags
pub mod Flaws
