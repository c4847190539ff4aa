pub mod Centred
pub mod Inner
pub mod Round
