pub mod Parts
pub mod Moved
pub mod Pushed
mod Answers
mod Pushing
