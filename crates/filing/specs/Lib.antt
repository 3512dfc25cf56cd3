-- Tables renamed and filed anew, as lists of numbers, and that they are the document's.
pub mod Front
pub mod File
pub mod Facts
pub mod Carry
