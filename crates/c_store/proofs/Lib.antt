pub mod Calls
pub mod Worked
