-- The mix of four words. Assumes nothing.
pub mod Mixing
