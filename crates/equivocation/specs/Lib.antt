-- What the contracts say beside the definitions of the protocol. Assumes nothing.
pub mod First
