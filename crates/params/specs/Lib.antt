pub mod Limits
pub mod Inside
