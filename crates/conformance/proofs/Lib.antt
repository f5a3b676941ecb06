-- That runs of the code are runs of `resilience`, and so demand 3 holds of them, deep blocks agree and fast blocks hold; that the code's removing of
-- old votes changes no answer, and its rack behaves as its loom; that its settled block is what every filling leaves; that its gossip carries
-- the whole store; that the figures of Fit are found, and that Compare names the first equivocation. Assumes nothing.
pub mod Answers
pub mod Memory
pub mod Steps
pub mod Conforms
pub mod Promises
pub mod Completes
pub mod Contracts
pub mod Removed
pub mod Rack
pub mod Settled
pub mod Questions
pub mod DeepAgreement
pub mod FastHolds
pub mod RoundTrip
pub mod OldStock
pub mod Figures
pub mod Compared
pub mod Witness
