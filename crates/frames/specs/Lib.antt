pub mod Codes
pub mod Cut
pub mod Fault
pub mod Parse
pub mod Settings
pub mod View
