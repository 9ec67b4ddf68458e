pub mod Whole
pub mod Walks
pub mod Views
pub mod Unroll
pub mod Ends
pub mod Sofar
