pub mod Depths
mod Firsts
mod OpenLists
mod Texts
