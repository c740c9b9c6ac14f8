pub mod walk
pub mod graph_utils
pub mod beam
