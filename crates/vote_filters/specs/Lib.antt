-- What the filters leave of a table of votes. Assumes nothing.
pub mod Latest
