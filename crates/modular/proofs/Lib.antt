pub mod Turns
pub mod Halves
pub mod Rounded
