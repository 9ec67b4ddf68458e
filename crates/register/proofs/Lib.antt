pub mod Gathering
pub mod RowSigning
