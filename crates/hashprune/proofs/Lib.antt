mod Lists
mod Cells
mod Ranked
mod Rows
mod Meaning
