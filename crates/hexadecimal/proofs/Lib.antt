pub mod Comments
pub mod Digits
pub mod Laws
pub mod Reading
