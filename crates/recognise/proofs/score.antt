pub mod Laws
pub mod Patterns
pub mod Examples
