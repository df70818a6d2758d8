pub mod Containers
pub mod Held
pub mod Below
pub mod Laws
