-- Laws of specs/Ask and specs/Steps. Assumes nothing.
pub mod Gather
pub mod Steps
pub mod StepsPackets
