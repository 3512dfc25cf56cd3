-- The listing's text as definitions, with a table of computed examples, and the laws that its writers go by.
pub mod Text
pub mod Printed
pub mod Examples
pub mod Wrote
pub mod Writes
pub mod Numbers
pub mod Writing
pub mod Lines
