pub mod Partition
pub mod Simhash
pub mod Leaf
pub mod Refine
pub mod Rows
pub mod Centroid
pub mod Medoid
pub mod Inside
