pub mod Findings
pub mod FindingWords
pub mod Kinds
pub mod Views
