pub mod EntryLemmas
pub mod ByTextsLemmas
pub mod ConverterLemmas
pub mod Adding
