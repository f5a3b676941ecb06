-- The fast block by rows. Assumes nothing.
pub mod Top
