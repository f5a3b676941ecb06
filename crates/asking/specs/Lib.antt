-- What a question is answered. Assumes nothing.
pub mod Ask
pub mod Steps
pub mod ChainAnswer
pub mod AskPackets
pub mod PacketAnswer
