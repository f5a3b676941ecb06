-- Rivals of a child, by rows. Assumes nothing.
pub mod Rivals
