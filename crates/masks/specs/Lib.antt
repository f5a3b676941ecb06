-- Sets of voters as words. Assumes nothing.
pub mod Masks
