-- The laws of what comes into view, and the proofs of the functions. Assumes nothing.
pub mod Named
pub mod Views
pub mod Order
pub mod Ancestors
pub mod One
pub mod Found
pub mod Indexed
pub mod Pass
pub mod Proposal
