pub mod Laws
pub mod Refusals
pub mod Shelves
pub mod Views
