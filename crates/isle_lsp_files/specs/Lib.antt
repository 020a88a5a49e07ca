pub mod Disks
pub mod Documents
pub mod Texts
