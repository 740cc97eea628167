pub mod Read
pub mod View
pub mod Write
