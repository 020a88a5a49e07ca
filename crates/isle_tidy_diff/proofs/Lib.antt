pub mod EditLemmas
pub mod LineLemmas
pub mod RowLemmas
