mod Bools
mod Answers
pub mod Worked
