pub mod Downward
pub mod Parting
