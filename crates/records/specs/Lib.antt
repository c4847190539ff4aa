-- "The circuit arrives as a lent run of gate records" (*Circuits* of document 01): the first gates of a run (First), and that they are enough, also of a run that is
-- too long (Enough). To read in that order. The code lends a run where it lies, as a circuit (`Records`), and needs neither. What a run is worth is defined in the crate circuit.
pub mod First
pub mod Enough
