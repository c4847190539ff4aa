-- What the bound of AND asks of what it is lent (Ready). The bound itself, of document 01's *AND*, is defined in the crate scheme.
pub mod Ready
