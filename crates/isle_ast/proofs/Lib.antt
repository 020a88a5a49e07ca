pub mod Lawful
pub mod Erasing
pub mod Writable
pub mod NoMacroArgs
pub mod Parts
