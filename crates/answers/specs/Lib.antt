-- What the answers mean, and what each call promises. Assumes nothing.
pub mod Answers
pub mod Promises
