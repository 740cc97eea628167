pub mod Laws
pub mod Lines
pub mod Sites
pub mod Spans
pub mod Texts
