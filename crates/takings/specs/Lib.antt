-- Take: what it writes, and that it comes to the definition.
pub mod Moves
pub mod Take
pub mod Calls
