pub mod Timers
pub mod Arriving
