-- Rows that a packet names, and blocks that come into view with those that stand on them. Assumes nothing.
pub mod Named
pub mod Ancestors
