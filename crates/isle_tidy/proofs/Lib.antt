pub mod FileLemmas
pub mod NameLemmas
pub mod PieceLemmas
pub mod StreamLemmas
pub mod WordLemmas
