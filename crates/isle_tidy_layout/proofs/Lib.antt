pub mod Again
pub mod Prints
pub mod Printable
pub mod Stacks
pub mod Trims
