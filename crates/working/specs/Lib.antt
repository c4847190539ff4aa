-- What follows for the loans when evaluation refuses nothing (Ready); on it rests "Each gate is lent its own stretch of the wire buffer to write" (*Circuits* of
-- document 01). What evaluation answers and leaves is defined in the crate circuit.
pub mod Ready
