pub mod Laid
pub mod Shown
