pub mod Changes
pub mod Depths
pub mod Folders
pub mod Ids
pub mod Listings
pub mod Positions
pub mod Readings
pub mod Tokens
