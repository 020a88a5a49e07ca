pub mod Allowances
pub mod Messages
pub mod Nesting
pub mod Openings
pub mod Reading
pub mod SeveralPrograms
pub mod SharedView
pub mod reports
