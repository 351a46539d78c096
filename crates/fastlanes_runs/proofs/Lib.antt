pub mod RunDecoding
pub mod RunEncoding
pub mod RunStarts
