pub mod Ending
pub mod Taking
