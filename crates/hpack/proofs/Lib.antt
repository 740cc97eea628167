pub mod Fusion
pub mod Walks
pub mod Statuses
pub mod ReadBack
