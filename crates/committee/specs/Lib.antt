pub mod Sets
pub mod Membership
pub mod Thresholds
pub mod Views
pub mod Lists
