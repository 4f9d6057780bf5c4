pub mod Modulo
pub mod Passed
