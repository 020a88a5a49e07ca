pub mod Answers
pub mod Refusals
pub mod NoAnswers
pub mod Tidying
pub mod Parsing
pub mod Programs
