pub mod Laid
pub mod Repairing
pub mod Leaves
pub mod Graph
