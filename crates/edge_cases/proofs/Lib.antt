pub mod Witnessed
