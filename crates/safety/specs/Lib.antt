pub mod Ties
pub mod Kept
pub mod Promises
pub mod Witnesses
