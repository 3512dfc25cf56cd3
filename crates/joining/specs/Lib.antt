-- Two elements made one in packed tables: what it makes of each table and of all, and that it is the document's.
pub mod Work
pub mod Carry
pub mod Lent
pub mod Windows
pub mod Leaf
