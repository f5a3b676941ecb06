-- Sets of small numbers in lent words. Assumes nothing.
pub mod Bitset
