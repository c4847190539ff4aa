-- What a tensor divides once. What the code gives back is *Tensor* of document 01's *Arithmetic* as the crate scheme defines it; no definition of it
-- stands here.
pub mod Lines
