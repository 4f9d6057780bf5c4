pub mod Bits
pub mod Agreeing
pub mod Sizing
