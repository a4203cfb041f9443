-- Proofs that stand beside the definitions, since ghost members and fields of the code above hand them out or rest on them.
pub mod Bits
pub mod Bounds
pub mod Members
pub mod Sets
pub mod Tests
