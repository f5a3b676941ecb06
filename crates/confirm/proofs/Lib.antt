-- The laws of the deep and of the fast block, and the proofs of the functions. Assumes nothing.
pub mod Descent
pub mod Candidates
