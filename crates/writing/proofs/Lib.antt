-- The proof of Write. Assumes nothing.
pub mod Packet
