pub mod Day
pub mod Household
