pub mod Matchings
pub mod Candidates
pub mod Stars
pub mod Faults
pub mod Views
pub mod Groups
pub mod Degrees
