pub mod Outcome
pub mod Lists
pub mod Bytes
pub mod Refusal
