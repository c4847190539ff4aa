pub mod Room
pub mod Stretch
pub mod Worked
