-- The verdict of a call on lent memory, and the paper's number of every refusal. Assumes nothing.
pub mod Verdict
pub mod Lent
pub mod Firsts
pub mod Counted
