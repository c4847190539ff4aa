pub mod And
pub mod Built
pub mod Fresh
pub mod Gates
pub mod Noise
pub mod Sound
pub mod Switch
pub mod Tensor
