pub mod Held
pub mod Lettered
pub mod Witness
pub mod Numbers
