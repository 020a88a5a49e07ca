pub mod Prints
pub mod Indentation
