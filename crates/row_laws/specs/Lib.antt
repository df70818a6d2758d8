pub mod Shown
pub mod Forms
pub mod Pages
