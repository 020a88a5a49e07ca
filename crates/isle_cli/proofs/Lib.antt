pub mod ArgumentLemmas
pub mod FailureLemmas
pub mod MessageLemmas
pub mod SourceLemmas
pub mod StreamLemmas
pub mod UsageLemmas
