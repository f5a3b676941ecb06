-- Numbers in lent words, and the order of numbers by their halves. Assumes nothing.
pub mod NumberWords
pub mod Orders
