pub mod Order
pub mod Made
pub mod Answers
pub mod Promise
pub mod Examples
pub mod Refuted
pub mod AsGiven
