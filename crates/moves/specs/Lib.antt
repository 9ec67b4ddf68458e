pub mod Orders
pub mod Texts
