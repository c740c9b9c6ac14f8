pub mod Inside
mod Answer
mod Replying
mod Scaled
