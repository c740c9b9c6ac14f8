pub mod Cards
pub mod Deal
pub mod Leading
pub mod Marks
pub mod Steps
