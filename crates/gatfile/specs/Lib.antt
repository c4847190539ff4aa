-- What the code of the circuit file is proved by; the file itself, *Circuit file and printer* of document 01, is defined in the crate circuitfile. Settled: what planning
-- answers of the circuit that a file lends, by which "then 9, 10". Writing: what writing into a lent buffer leaves, for the bounds.
pub mod Settled
pub mod Writing
