pub mod Setters
pub mod Queues
pub mod Places
pub mod Phases
pub mod Fresh
pub mod Refusals
