pub mod Program
pub mod Expansion
pub mod Doing
