pub mod Carries
pub mod Answered
pub mod Values
