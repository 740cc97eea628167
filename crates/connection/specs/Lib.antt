pub mod Greeting
pub mod Taken
