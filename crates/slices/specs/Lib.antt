pub mod Cuts
pub mod Laws
pub mod Slices
pub mod Surveys
pub mod Views
pub mod Worked
