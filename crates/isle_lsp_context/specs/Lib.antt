pub mod Calls
pub mod Offers
pub mod Places
pub mod Scanning
pub mod Signatures
pub mod Steps
