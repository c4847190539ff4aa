-- The circuit that a call lends, its gates in three lists or as records. Assumes nothing.
use Rattle.circuit.specs.Circuits.{Circuit, as_lists, as_records}
use Rattle.replay.specs.declared.circuits.Circuit.{Circuit as Lent}
use Rattle.replay.specs.declared.circuits.Circuit.TheVariants.{Lists, Records}

abbrev pub circuit_of : Lent → Circuit
circuit_of (Lists c) = as_lists c.kinds.now c.lefts.now c.rights.now
circuit_of (Records gates) = as_records gates.now
