-- The laws of voters' words, and the proofs of the functions. Assumes nothing.
pub mod Masks
