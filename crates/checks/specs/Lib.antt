-- What the first rows of planning and evaluation tell of a circuit that is lent, and what it is to have found the first wrong gate (Ready); that three lists of one
-- length are as many gates (Sized). What each check tells is defined in the crate circuit.
pub mod Ready
pub mod Sized
