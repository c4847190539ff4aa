-- What the functions that the gates are worked by ask of what they are lent (Ready). What the calls answer and write, *XOR*, *NOT* and *AND* of document 01, is
-- defined in the crate scheme.
pub mod Ready
