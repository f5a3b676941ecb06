-- The laws of entries that are received and come into view, and the proofs of the functions. Assumes nothing.
pub mod Held
pub mod Naming
pub mod Carrying
pub mod Receiving
pub mod Node
pub mod Once
