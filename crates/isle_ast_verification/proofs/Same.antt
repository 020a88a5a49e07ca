pub mod ModelLists
pub mod SpecLists
