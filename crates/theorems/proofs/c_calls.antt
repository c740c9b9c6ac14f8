pub mod Recognised
pub mod Promise
pub mod Acceptance
pub mod Examples
