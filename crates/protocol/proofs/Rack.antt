-- Laws of specs/Rack: a rack behaves as a loom. Assumes nothing.
pub mod Milder
pub mod AsLoom
pub mod Cases
