-- What every call answers with, and the parameter set that it is lent. Answer is the number and the place of each refusal: "0 means done". First is *Refusal numbers* of document 01: rows, "the first offending" place, "A refusal
-- returns 0 in every other number and writes no buffer". Order is the order in which the numbers are given, and Lowest that it is theirs: "A call gives the lowest number that applies". Exact is
-- what is exact about any row. Parameters is *Parameters*: the ranges, the "six house sheets, a constant table proved once to meet the ranges", and a maker that
-- "refuses a set outside them". To read in that order.
pub mod Answer
pub mod First
pub mod Order
pub mod Lowest
pub mod Exact
pub mod Parameters
