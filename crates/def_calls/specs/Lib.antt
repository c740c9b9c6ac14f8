pub mod Graph
pub mod Build
pub mod Search
pub mod Example
