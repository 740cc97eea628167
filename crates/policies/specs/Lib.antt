pub mod Policies
pub mod Worked
pub mod Laws
