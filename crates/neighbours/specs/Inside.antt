pub mod Gathering
pub mod Scoring
