pub mod Indexes
pub mod Lists
pub mod Values
pub mod Tables
pub mod Columns
pub mod Pages
