-- What keys, encryption, decryption, XOR, NOT and AND are. Arithmetic is *Arithmetic* of document 01, in its words and order: "All definitions are over whole
-- numbers." Calls is its *Refusal numbers* for the calls on keys and ciphertexts. The code of the crates above is held to these two: read them first, beside the paper.
-- Then Figures, the figures "proved together as a single table of the definitions", with Ties and Slips (*Sheet 0 and edge figures*); Refusals, every number of every call, computed; Wording, that a definition is
-- its sentence; Unique and Witnesses, *What the promises must pin*; and Passed, what the code may lean on once a test is false.
-- Last Loans, what the arithmetic's code asks of what it is lent, and Residues, that the calls' own tests give it.
pub mod Arithmetic
pub mod Calls
pub mod Passed
pub mod Figures
pub mod Refusals
pub mod Ties
pub mod Wording
pub mod Foremost
pub mod Slips
pub mod Unique
pub mod Witnesses
pub mod Loans
pub mod Residues
