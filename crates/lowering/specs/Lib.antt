-- Depths lowered through packed keys.
pub mod Lower
pub mod Rest
pub mod Carry
