pub mod Store
pub mod Owners
pub mod Saved
pub mod Runs
