-- What the function that settles the budget asks of what it is lent (Ready). What planning answers and leaves is defined in the crate circuit.
pub mod Ready
