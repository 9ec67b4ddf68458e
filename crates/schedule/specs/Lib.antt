pub mod Numbers
pub mod Tags
pub mod Fields
pub mod Tagging
pub mod Moves
pub mod Reading
pub mod Laid
