pub mod Laid
pub mod Taken
pub mod Graph
pub mod Views
pub mod Examples
pub mod AllLive
