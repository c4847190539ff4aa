-- The noise facts, theorems alone: why the bounds of *Arithmetic* of document 01 hold of the "True noise of c for bit b". "Where that is under q/4, the whole number
-- 2k+b is at most L in size; the AND bound rests on this" is proved in Noise.
-- To read: Noise; Gates, Sound and Fresh for encryption, decryption, XOR and NOT; Reduced, Tensor, Switch, Built and And for AND; Bounds, that a gate's bound grows with
-- the bounds of its operands. And stands in proofs/, and so do, under the same names, the theorems of these that rest on a definition which a must-fail edit turns.
pub mod Noise
pub mod Bounds
pub mod Gates
pub mod Sound
pub mod Fresh
pub mod Reduced
pub mod Tensor
pub mod Switch
pub mod Built
