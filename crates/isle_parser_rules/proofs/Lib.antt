pub mod ClosedParts
pub mod Constants
pub mod Reading
pub mod ExpressionParts
pub mod PatternParts
pub mod Positions
pub mod ReadOnce
pub mod RightSides
