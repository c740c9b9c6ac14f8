pub mod promise
pub mod acceptance
pub mod checked_values
pub mod c_calls
pub mod footprint
