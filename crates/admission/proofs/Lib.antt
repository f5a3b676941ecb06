-- The laws of packets that are looked up in part, and the proofs of the functions. Assumes nothing.
pub mod Known
pub mod Links
pub mod FirstBad
pub mod Counts
pub mod Seen
