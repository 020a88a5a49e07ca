pub mod TypedRules
pub mod RuleTypes
pub mod Constructors
pub mod RuleFaults
pub mod Warnings
pub mod Views
