-- What the contracts of the readers and writers cite (Bounds, Held, Sizes, White), and laws that their proofs and those of the programs lean on (Front, Ranges). No section of document
-- 01 is defined here: the programs above serve its "comparison with an independent program" (*Sheet 0 and edge figures*).
pub mod Bounds
pub mod Front
pub mod Held
pub mod Ranges
pub mod Sizes
pub mod White
