pub mod Representations
pub mod Views
pub mod Cursors
