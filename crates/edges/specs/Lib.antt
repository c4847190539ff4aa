-- The tests at run time by which this program keeps what the functions it calls require (Guard), and the lines that it writes (Line). No section of document 01
-- is defined here: it serves the "comparison with an independent program" (*Sheet 0 and edge figures*).
pub mod Guard
pub mod Line
