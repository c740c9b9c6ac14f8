pub mod Laws
mod Settling
