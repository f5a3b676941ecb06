-- The laws of rows, weights, children and walks, and the proofs of the functions. Assumes nothing.
pub mod Held
pub mod Weights
pub mod Children
pub mod Best
pub mod Scan
pub mod SoundTables
