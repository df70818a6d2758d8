pub mod Chunks
pub mod Heads
pub mod Forms
pub mod Compare
pub mod Settled
pub mod Walks
pub mod Verdict
