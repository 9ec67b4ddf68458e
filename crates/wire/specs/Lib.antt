pub mod Kinds
pub mod Ranges
pub mod Shares
pub mod Claims
pub mod Words
pub mod Heeding
pub mod Lines
