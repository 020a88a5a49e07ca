pub mod Calls
pub mod Lawful
pub mod LetHeads
pub mod Writable
pub mod NoMacroArgs
pub mod Parts
pub mod SameLists
pub mod Templates
