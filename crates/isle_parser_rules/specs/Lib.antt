pub mod Appended
pub mod Positions
pub mod ConstantReaders
pub mod ExpressionReaders
pub mod PatternReaders
pub mod RuleReaders
pub mod RuleParts
