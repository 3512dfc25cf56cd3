-- What a step writes into a pool.
pub mod Slots
