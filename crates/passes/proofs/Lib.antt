pub mod Beyond
pub mod Sums
pub mod Tops
