-- The proofs of the functions, how sound tables split into what code tests, and what soundness gives. Assumes nothing.
pub mod Split
pub mod Turns
pub mod Lookup
pub mod Whole
pub mod Facts
