pub mod Candidates
pub mod Connectivity
pub mod Marking
pub mod Turns
