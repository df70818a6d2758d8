pub mod Number
pub mod First
pub mod Place
pub mod Once
pub mod Within
