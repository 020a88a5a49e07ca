pub mod Words
pub mod DeclarationWords
pub mod RuleWords
pub mod OverlapWords
pub mod Notes
