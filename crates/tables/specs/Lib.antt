pub mod Rings
pub mod StaticTable
pub mod DynamicTable
pub mod Layout
pub mod Memories
pub mod Names
pub mod Views
