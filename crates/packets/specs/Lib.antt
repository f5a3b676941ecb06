-- What the contracts say beside the definitions of packets. Assumes nothing.
pub mod Reader
pub mod Header
pub mod Sections
