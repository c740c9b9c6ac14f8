pub mod Marks
pub mod Buckets
pub mod Nearest
pub mod Placing
pub mod Gathering
pub mod Dealing
