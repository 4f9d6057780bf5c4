pub mod Laid
pub mod Reading
pub mod Widths
