pub mod Decoding
pub mod Skipping
pub mod Paging
pub mod Marks
pub mod Answers
pub mod Laws
