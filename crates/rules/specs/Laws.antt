-- Proofs that stand beside the definitions, since ghost members and fields of the code hand them out or rest on them: the laws of each kind of rule, of binary digits, and of sets of numbers.
pub mod Boxes
pub mod Counting
pub mod Pairs
