pub mod Bits
pub mod Bounds
pub mod Refusals
pub mod Sets
pub mod Laws
