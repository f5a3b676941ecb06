-- Arrays, blocks by their rows in the table, and the voters of each subtree. Assumes nothing.
pub mod Filled
pub mod BlockRows
pub mod Subtrees
