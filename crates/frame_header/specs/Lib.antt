pub mod Codes
pub mod Header
pub mod Octets
pub mod View
