pub mod Erased
pub mod Greedy
pub mod Indentation
pub mod LineEnds
pub mod Least
pub mod NumberAtoms
pub mod ReadBackLaw
pub mod ShortLines
pub mod WordSymbols
pub mod Spellings
pub mod SameLists
mod PieceLemmas
