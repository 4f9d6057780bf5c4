pub mod Features
pub mod Modes
pub mod Capacities
pub mod Statuses
pub mod Steps
