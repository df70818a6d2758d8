pub mod Pages
pub mod Worked
