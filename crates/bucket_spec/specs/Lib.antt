pub mod Piece
pub mod Bucket
pub mod Page
pub mod Read
pub mod Examples
