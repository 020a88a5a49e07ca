pub mod Marking
pub mod WalkLemmas
pub mod NumberLemmas
