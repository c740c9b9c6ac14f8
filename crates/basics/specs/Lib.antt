pub mod Choice
pub mod Refusals
pub mod Sum
pub mod Nodes
pub mod Lists
pub mod Graph
pub mod Inside
