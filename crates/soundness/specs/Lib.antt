-- The rules of sound tables in the order in which code tests them. Assumes nothing.
pub mod Parts
