pub mod Clear
pub mod Passing
pub mod Carries
pub mod GoesOn
