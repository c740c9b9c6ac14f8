pub mod Calls
pub mod Promise
pub mod Acceptance
pub mod Starred
pub mod CCalls
pub mod CPromise
pub mod CAcceptance
pub mod Footprint
