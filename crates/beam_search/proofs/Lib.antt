mod Linking
mod Taking
mod Full
mod Walking
mod Ending
