pub mod Wires
pub mod Signing
pub mod Words
pub mod Facts
pub mod Safety
