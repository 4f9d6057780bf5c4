pub mod Order
pub mod Woken
pub mod Runs
pub mod Ends
