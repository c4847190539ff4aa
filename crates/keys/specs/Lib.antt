-- What the proofs of the calls on keys and ciphertexts share. The calls themselves, *Arithmetic* and *Refusal numbers* of document 01, are the crate scheme's.
-- Moduli: a set in the ranges of *Parameters* has a modulus that the arithmetic works with. Chain: how a call comes to its number by its rows, and what it leaves,
-- since "A refusal returns 0 in every other number and writes no buffer".
pub mod Moduli
pub mod Chain
