-- The lists of slots in a pool's header.
pub mod Header
pub mod Moves
