pub mod Stretch
pub mod Passed
