pub mod Heads
pub mod Read
