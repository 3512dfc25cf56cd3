-- The tests of a pool say what the definitions say.
pub mod Heads
pub mod Pools
pub mod Books
