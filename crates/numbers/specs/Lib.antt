-- Numbers kept in lent words. Assumes nothing.
pub mod NumberWords
