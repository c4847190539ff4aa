pub mod Added
pub mod Ready
pub mod Ends
