pub mod NameLemmas
pub mod SeenLemmas
pub mod RuleLemmas
