pub mod Faults
pub mod TypeFaults
pub mod TermFaults
pub mod Terms
pub mod Views
pub mod naming
