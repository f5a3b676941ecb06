-- The laws of rows and of handing on, and the proofs of the functions. Assumes nothing.
pub mod Filled
pub mod BlockRows
pub mod Up
pub mod Handing
