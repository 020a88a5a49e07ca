pub mod Balanced
pub mod Indented
pub mod PlainShapes
pub mod PrintDocuments
pub mod PrintReturns
pub mod PrintTexts
pub mod PrintedDefinitions
pub mod Trees
