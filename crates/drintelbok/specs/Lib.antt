pub mod New
pub mod Given
pub mod Sizes
