-- Runs of the code, and what is claimed of them. Assumes nothing.
pub mod State
pub mod CodeRun
pub mod Conformance
pub mod CodeCallList
pub mod CodeRemoval
pub mod CodeRack
pub mod CodeRackPackets
pub mod CodeSettled
pub mod CodeDeepAgreement
pub mod CodeFastHolds
pub mod CodeFlooding
pub mod CodeAsynchrony
pub mod CodeRoundTrip
pub mod CodeOldStock
pub mod CodeFigures
pub mod CodeCompared
