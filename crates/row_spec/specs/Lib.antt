pub mod Read
pub mod Varint
pub mod Schema
pub mod Value
pub mod Block
pub mod Page
pub mod Answer
