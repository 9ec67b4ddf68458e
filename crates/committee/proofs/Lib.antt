pub mod Quorums
pub mod Places
