pub mod Meaning
pub mod Rules
pub mod Laws
pub mod Calls
pub mod Lists
pub mod Texts
