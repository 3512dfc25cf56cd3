-- One step on a sound pool.
pub mod Standing
pub mod Heads
pub mod Ways
pub mod Settling
pub mod Branch
pub mod Outs
