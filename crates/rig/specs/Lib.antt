pub mod Fetched
pub mod Seen
pub mod Tally
