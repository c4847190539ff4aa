pub mod Exact
pub mod Lines
