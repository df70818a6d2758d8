pub mod Bits
pub mod Judge
pub mod Form
pub mod Sets
pub mod Ask
pub mod Output
pub mod Plan
