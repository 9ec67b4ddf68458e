pub mod Cases
pub mod Moves
