pub mod Dealing
pub mod Gathering
pub mod Laws
