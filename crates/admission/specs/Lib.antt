pub mod Seating
pub mod Scenes
