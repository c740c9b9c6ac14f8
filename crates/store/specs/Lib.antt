pub mod Layout
pub mod View
pub mod WellFormed
pub mod Opening
