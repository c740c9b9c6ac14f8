pub mod Built
pub mod Candidates
pub mod Lanes
