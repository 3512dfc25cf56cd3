-- The tests of a lone sheet on its bytes, and the laws of their ways out.
pub mod Loops
pub mod Ran
pub mod Tests
pub mod Ways
