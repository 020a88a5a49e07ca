pub mod Fresh
pub mod Kept
pub mod RenamedTokens
pub mod SpeltTexts
pub mod edits
pub mod scopes
pub mod actions
