pub mod Refusals
pub mod Legality
pub mod Typed
pub mod Sameness
