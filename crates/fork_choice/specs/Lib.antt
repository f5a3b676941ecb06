-- What the functions ask of the tables, the voters and weights of blocks, children and best children by rows. Assumes nothing.
pub mod Tables
pub mod Weights
pub mod Children
pub mod Walks
