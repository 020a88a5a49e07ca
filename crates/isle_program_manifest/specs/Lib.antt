pub mod Paths
pub mod Places
pub mod Levels
pub mod Mistakes
pub mod Manifest
pub mod Membership
