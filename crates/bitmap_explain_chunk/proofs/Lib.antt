mod Excepting
pub mod Telling
