pub mod AddLaws
pub mod Answer
pub mod Examples
pub mod NewLaws
pub mod Numbers
pub mod Open
pub mod Views
