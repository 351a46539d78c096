mod Distances
mod Frames
mod HeadsAt
pub mod Neighbours
mod PartWords
mod WidthBounds
mod Written
mod WrittenHeads
