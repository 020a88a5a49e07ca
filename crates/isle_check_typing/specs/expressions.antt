pub mod TypedExpressions
pub mod TypedView
pub mod ExpressionTypes
pub mod Views
