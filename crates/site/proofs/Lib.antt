mod Liner
pub mod Parting
mod Reading
