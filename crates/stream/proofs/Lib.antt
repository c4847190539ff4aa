-- Laws that several proofs of the crate cite.
pub mod Digits
pub mod Left
