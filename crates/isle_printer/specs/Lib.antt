pub mod DefinitionShapes
pub mod Printed
pub mod PrintedNodes
pub mod Lines
pub mod ReadBack
pub mod RuleShapes
