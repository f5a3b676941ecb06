-- The laws of rivals by rows and of the walk by levels, and the proofs of the functions. Assumes nothing.
pub mod Rivals
pub mod Levels
