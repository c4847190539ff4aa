-- What encryption's worker asks of what it is lent (Ready): what it tells that no refusal applies. What the calls answer and write, *Encrypt* and *Decrypt* of
-- document 01, is defined in the crate scheme.
pub mod Ready
