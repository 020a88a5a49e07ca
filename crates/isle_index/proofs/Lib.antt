pub mod Texts
pub mod Sorting
pub mod Places
pub mod Adding
pub mod Closing
pub mod Growing
pub mod Shifting
pub mod Replacing
