pub mod Cursors
pub mod Slots
pub mod Lent
pub mod Chains
pub mod Ring
pub mod Sound
