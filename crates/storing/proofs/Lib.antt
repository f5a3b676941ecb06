-- The laws of tables that grow, and the proofs of the functions. Assumes nothing.
pub mod Adding
pub mod Turns
pub mod Chosen
