pub mod Examples
pub mod Tally
pub mod Window
pub mod Parts
pub mod Reading
