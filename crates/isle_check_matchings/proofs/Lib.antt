pub mod AskLemmas
pub mod RuleLemmas
