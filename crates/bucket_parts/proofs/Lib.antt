pub mod Alongs
pub mod Bodies
