-- What the functions that a switching key is made by ask of what they are lent, and that it is what success tells (Ready). What the calls answer and write,
-- *Switching key* of document 01, is defined in the crate scheme.
pub mod Ready
