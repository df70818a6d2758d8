mod Pages
pub mod Writes
pub mod Worked
