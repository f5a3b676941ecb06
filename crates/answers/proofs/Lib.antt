-- The laws that the calls share. Assumes nothing.
pub mod Leaves
pub mod Tables
