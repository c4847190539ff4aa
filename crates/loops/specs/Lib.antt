-- What the timed loops test of their loans before they run (Lent). No section of document 01 is defined here: these calls are no part of the engine.
pub mod Lent
