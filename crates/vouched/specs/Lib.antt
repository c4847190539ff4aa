-- What the engine vouches for, theorems alone. Demand3 states demand 3 whole, by the promises that the contracts of planning, evaluation and decryption cite, without
-- its proof: what an accepted circuit gives, and that refusal is exact, so that "an engine that refuses everything" is shut out (*What the promises must pin* of
-- document 01). Letter states what the firm prints, from key to letter. Read these two first.
-- Then Three, Keeps and Accepted, steps of the proof, and Unique, that "uniqueness of the answer is proved". In proofs/ stand the theorems: Held is demand 3, Lettered
-- what Letter states, and Witness shows that neither is empty.
pub mod Demand3
pub mod Three
pub mod Keeps
pub mod Accepted
pub mod Letter
pub mod Unique
