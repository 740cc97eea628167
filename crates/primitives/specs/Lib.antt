pub mod Reads
pub mod Integers
pub mod Prefixes
pub mod Strings
pub mod Views
