pub mod References
pub mod Lists
pub mod Slots
pub mod Rows
pub mod Fitting
pub mod Marks
pub mod Writes
