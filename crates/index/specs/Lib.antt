-- Keys of entries, and the links that are an index of them. Assumes nothing.
pub mod Keys
pub mod Index
pub mod Links
pub mod Firsts
