pub mod Depths
pub mod Following
mod Within
