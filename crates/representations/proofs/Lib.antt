pub mod Passing
pub mod Moving
