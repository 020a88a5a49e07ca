pub mod Counts
pub mod Hiding
pub mod Keeping
pub mod Puts
