pub mod Bytes
pub mod Command
pub mod Element
pub mod Ramp
pub mod Refusal
pub mod Run
pub mod Verb
pub mod Words
