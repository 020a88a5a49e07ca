pub mod Collecting
pub mod DeclaredLemmas
pub mod Declaring
