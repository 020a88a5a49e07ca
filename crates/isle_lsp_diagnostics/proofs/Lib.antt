pub mod Depths
pub mod HintDepths
pub mod Own
pub mod Readings
pub mod Sent
pub mod Told
pub mod Tokens
