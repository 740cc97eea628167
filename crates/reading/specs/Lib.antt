pub mod Meeting
pub mod Settings
pub mod Blocks
pub mod Acting
