pub mod Queues
pub mod State
pub mod Tournament
