pub mod Checksum
pub mod Multiple
