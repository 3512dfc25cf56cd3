-- Numbers in bytes: reading and writing as lists.
pub mod Patch
pub mod Words
