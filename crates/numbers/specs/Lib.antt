-- What the answers say of a reading, the laws by which a check follows it, and rows of checks.
pub mod Answers
pub mod Chains
pub mod Rows
