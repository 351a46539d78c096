mod BlockParts
pub mod BlockValues
pub mod ColumnParts
pub mod ColumnValues
mod CountedValues
pub mod FormBounds
mod FrameMasks
pub mod FrameWords
mod LeastValues
mod KeptBlocks
pub mod MaskBits
mod MaskParts
mod ToldHeads
mod PageParts
mod Parts
mod PutBlocks
mod PutTails
mod SealedPages
mod ShortestForm
mod SumBounds
mod SumWords
mod WordCounts
pub mod WordPlaces
mod WrittenColumns
mod OpenedColumns
