pub mod Heads
pub mod Numbers
