pub mod Exceptions
pub mod Widths
