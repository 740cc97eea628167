pub mod Laws
mod Pushes
mod Summing
mod Spelled
