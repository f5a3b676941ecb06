-- Laws of specs/Settled and specs/SettledWalk: the settled block is the farthest block that every filling leaves on the head's chain; without a silent voter it
-- is the head, more silent voters never move it up; the walk with a margin finds it. Assumes nothing.
pub mod Every
pub mod Farthest
pub mod Relations
pub mod Margin
pub mod Weights
pub mod Walk
pub mod Sameness
pub mod Nodes
pub mod Cases
