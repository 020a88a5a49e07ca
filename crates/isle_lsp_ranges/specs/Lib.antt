pub mod Foldings
pub mod LineEdits
pub mod Selections
