-- *Circuits* of document 01 is Circuits: "Inputs are wires 0 up; gate g makes wire inputs+g", the checks of the gates, and a circuit as it is lent; Plan and
-- Evaluate are what planning and evaluation are lent, answer, leave and promise. Read these three first.
-- Then figures, each computed: Example, the paper's circuit; Refusals, every number of planning and evaluation. And what is proved of them: Run, what every wire is;
-- Records and Wires, what follows where a gate is not wrong, and that three lists of one length are their records;
-- Answers, number and place at each end; Passed, what follows where a row does not apply; Foremost, "the lowest number that applies"; Exact, that refusal of a gate is
-- exact; Unread, that the gates' stretches and the scratch "may arrive with anything in them". Run stands in proofs/, and so do, under the same names, the theorems of the
-- others that rest on a definition which a must-fail edit turns.
pub mod Circuits
pub mod Kind
pub mod Plan
pub mod Evaluate
pub mod Example
pub mod Refusals
pub mod Records
pub mod Wires
pub mod Answers
pub mod Passed
pub mod Foremost
pub mod Exact
pub mod Unread
