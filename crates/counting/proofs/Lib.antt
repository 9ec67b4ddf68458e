pub mod Booleans
pub mod Sums
pub mod Bits
pub mod Any
pub mod Every
