pub mod Reads
pub mod Uses
pub mod Definitions
pub mod lints
