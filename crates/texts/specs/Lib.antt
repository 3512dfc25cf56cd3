-- Laws of reading: what a reading that gave a thing says of the bytes, and what the head of a book names.
pub mod Reads
pub mod Names
pub mod Heads
pub mod Text
pub mod Texts
pub mod Parts
