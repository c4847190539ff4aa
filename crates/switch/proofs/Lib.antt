pub mod Chunks
pub mod Switching
