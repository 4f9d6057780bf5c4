pub mod Refusals
pub mod Stages
pub mod Rules
pub mod Laws
