-- Laws for the proofs of the functions. Assumes nothing.
pub mod Fields
pub mod Reading
pub mod Entries
pub mod Form
pub mod Turns
pub mod Headers
