-- Tables of packed entries as lists of numbers, and that they are the document's tables.
pub mod Table
pub mod Shift
pub mod Ways
pub mod Last
pub mod Carry
