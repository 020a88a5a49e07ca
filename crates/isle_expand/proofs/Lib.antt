pub mod ExpansionLemmas
pub mod DoingLemmas
pub mod WordLemmas
