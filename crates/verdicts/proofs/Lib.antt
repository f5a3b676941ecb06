-- The proofs of the functions, and the laws of verdicts that the calls cite. Assumes nothing.
pub mod Sequence
pub mod Passed
pub mod Room
pub mod Lent
pub mod Calls
pub mod Receive
pub mod Write
