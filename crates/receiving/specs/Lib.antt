-- What an accepted packet is, for the tables that it is received into. Assumes nothing.
pub mod Accepted
