pub mod First
pub mod Given
pub mod Lowest
pub mod Order
pub mod Parameters
