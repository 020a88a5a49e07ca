pub mod Incoming
pub mod Items
pub mod Outgoing
pub mod Outlines
pub mod Ranges
pub mod Rulers
pub mod Sources
