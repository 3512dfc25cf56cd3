-- Limits as the definitions have them.
pub mod Limits
