pub mod Decoding
pub mod Turns
pub mod Responses
