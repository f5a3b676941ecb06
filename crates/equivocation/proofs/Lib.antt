-- The passes over a packet's votes, and the proofs of the functions. Assumes nothing.
pub mod Passes
