pub mod Bytes
pub mod Diagnostic
pub mod Labels
pub mod Lines
pub mod PositionOrder
pub mod PrettyLine
pub mod Source
