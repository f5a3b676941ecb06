-- The laws of sets in words, and the proofs of the functions. Assumes nothing.
pub mod Bitset
