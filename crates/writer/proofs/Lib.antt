-- Laws for the proofs of the functions. Assumes nothing.
pub mod Positions
pub mod Rows
pub mod Packet
pub mod Wide
pub mod Readable
