pub mod Cells
pub mod Whole
pub mod Trimming
