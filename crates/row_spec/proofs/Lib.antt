pub mod Examples
pub mod NumberExamples
