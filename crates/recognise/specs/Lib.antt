pub mod Recognise
pub mod Score
pub mod Recognised
