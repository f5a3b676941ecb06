-- The laws of the filters, one row at a time, and the proofs of the functions. Assumes nothing.
pub mod Selected
pub mod Equivocators
pub mod Latest
pub mod Kept
