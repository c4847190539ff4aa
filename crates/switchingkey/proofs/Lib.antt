pub mod Ready
pub mod Ends
