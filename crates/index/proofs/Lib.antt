-- The proofs of the functions, and what the index says of blocks and votes. Assumes nothing.
pub mod Keys
pub mod Known
pub mod Links
pub mod Tables
pub mod Found
pub mod Joined
pub mod Slots
pub mod Firsts
pub mod Added
pub mod Shapes
pub mod Cells
