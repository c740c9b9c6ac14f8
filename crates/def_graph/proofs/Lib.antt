pub mod partition
pub mod leaf
pub mod refine
pub mod graph_rows
pub mod medoid
