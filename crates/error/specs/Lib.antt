pub mod Numbers
pub mod Inside
