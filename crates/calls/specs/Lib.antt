-- What a call in the store lends to the engine (Lent), its gates (Gates), its numbers in the engine's widths (Width), the calls by their numbers (Kind), and what is put of
-- an answer (Print). No section of document 01 is defined here: the program serves the "comparison with an independent program" (*Sheet 0 and edge figures*).
pub mod Gates
pub mod Kind
pub mod Lent
pub mod Print
pub mod Width
