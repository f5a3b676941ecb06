-- The proofs of the questions, and the laws that they share. Assumes nothing.
pub mod Asks
