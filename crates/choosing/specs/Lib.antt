-- Counting through choices.
pub mod Choosing
pub mod Steps
