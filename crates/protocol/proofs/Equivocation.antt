-- Laws of specs/Equivocation and specs/EquivocationPasses: the function finds what the quantifiers say, and the passes find the same. Assumes nothing.
pub mod Ranks
pub mod Least
pub mod Clash
pub mod First
pub mod Order
pub mod Found
pub mod Passes
