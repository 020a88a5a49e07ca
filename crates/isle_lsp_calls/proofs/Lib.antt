pub mod Defining
pub mod Depths
pub mod Following
pub mod Looking
pub mod Unread
