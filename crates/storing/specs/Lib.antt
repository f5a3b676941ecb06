-- What tables hold after a packet was added. Assumes nothing.
pub mod Grown
