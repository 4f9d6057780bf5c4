pub mod Lent
pub mod State
pub mod Making
