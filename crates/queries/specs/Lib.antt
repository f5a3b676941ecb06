-- What the questions promise is in `answers`; here is what Compare answers once both packets are judged. Assumes nothing.
pub mod Comparison
