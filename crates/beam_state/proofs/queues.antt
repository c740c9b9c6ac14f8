pub mod Laws
mod Ranks
mod Steps
mod Times
pub mod Holding
mod Keeping
