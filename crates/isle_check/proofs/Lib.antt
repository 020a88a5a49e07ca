pub mod DoingLemmas
pub mod EndLemmas
pub mod ProgramLemmas
pub mod ThisLemmas
