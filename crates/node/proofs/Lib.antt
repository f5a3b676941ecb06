-- The proofs of the calls, and the laws that they share. Assumes nothing.
pub mod Tables
pub mod Calls
