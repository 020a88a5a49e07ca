pub mod Event
pub mod EventView
pub mod Events
pub mod Mapped
pub mod Names
pub mod Scopes
