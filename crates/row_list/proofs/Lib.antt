pub mod Rows
pub mod Asking
