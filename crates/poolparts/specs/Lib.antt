-- The tests of a pool on its bytes, and the laws of their ways out.
pub mod Tests
pub mod Ways
