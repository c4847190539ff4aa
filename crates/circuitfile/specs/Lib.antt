-- *Circuit file and printer* of document 01. File: "Big-endian: the mark GAT, 16-bit version 1, n (16 bits), ..", its own order of refusals, and what the file check and
-- planning answer and write. Text: what the printer "prints exactly". Read these two first.
-- Then the figures that are computed by them: Example, the paper's file, its text and its plan. Then the laws that the code is proved by: Fields, Order, Wires, Digits, Lines;
-- and what is proved of the definitions: Wording, that they are their sentences; Unique, that each promise has one answer; Long, that what stands
-- behind a file's first 20,504 bytes does not count.
pub mod File
pub mod Text
pub mod Example
pub mod Fields
pub mod Order
pub mod Wires
pub mod Digits
pub mod Lines
pub mod Wording
pub mod Exact
pub mod Unique
pub mod Long
