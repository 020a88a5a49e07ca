pub mod AnswerLemmas
pub mod ParsingLaw
pub mod RefusalLemmas
pub mod StatusLemmas
pub mod TidyLemmas
pub mod ProgramLemmas
