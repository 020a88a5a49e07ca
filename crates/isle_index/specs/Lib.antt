pub mod Entries
pub mod Held
pub mod Occurrences
pub mod Symbols
pub mod Candidates
pub mod Renaming
pub mod Renamed
