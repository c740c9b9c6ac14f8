pub mod Answer
pub mod New
pub mod Add
pub mod Example
