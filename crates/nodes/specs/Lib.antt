-- What nodes' code is held to.
pub mod Heads
