-- Laws of the last block in view. Assumes nothing.
pub mod Last
