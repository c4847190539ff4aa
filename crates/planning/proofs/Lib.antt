pub mod Planned
pub mod Settling
