pub mod Cells
pub mod Refusals
pub mod Kinds
pub mod Rules
pub mod Laws
