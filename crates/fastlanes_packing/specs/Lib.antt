pub mod Kernels
pub mod Packing
pub mod Reads
pub mod Single
pub mod Steps
