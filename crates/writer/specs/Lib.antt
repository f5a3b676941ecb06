-- What the contracts say beside the definitions of packets and of lent memory. Assumes nothing.
pub mod Rows
pub mod Sent
