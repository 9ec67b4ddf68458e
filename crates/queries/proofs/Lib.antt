pub mod Charging
pub mod Deciding
