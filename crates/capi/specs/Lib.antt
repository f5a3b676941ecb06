-- Which exported struct stands for which answer. Assumes nothing.
pub mod Structs
