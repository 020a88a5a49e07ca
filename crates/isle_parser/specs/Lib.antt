pub mod Parsed
pub mod Positions
pub mod FormReaders
pub mod ModelReaders
pub mod TermReaders
pub mod TypeReaders
pub mod DefinitionReaders
pub mod NextDefinition
