pub mod Distinct
pub mod Pairs
pub mod Rows
pub mod RowPairs
pub mod Signing
