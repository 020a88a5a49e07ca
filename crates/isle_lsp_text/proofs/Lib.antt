pub mod Above
pub mod Covered
pub mod EditSteps
pub mod Parts
pub mod Places
pub mod Units
pub mod Walks
pub mod Words
