pub mod Scoped
pub mod Expressions
pub mod Programs
pub mod Numbered
pub mod Binders
pub mod Occurrences
pub mod Owners
