pub mod Requests
pub mod Layout
pub mod Service
pub mod Log
pub mod Class
pub mod Holds
