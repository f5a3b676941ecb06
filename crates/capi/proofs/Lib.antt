-- Refusal numbers, and what no profile's number makes. Assumes nothing.
pub mod Numbers
pub mod Profiles
