-- The circuit that a call of the program lends. No section of document 01 is defined here: the program serves the "comparison with an independent program" (*Sheet 0 and
-- edge figures*).
pub mod Lent
