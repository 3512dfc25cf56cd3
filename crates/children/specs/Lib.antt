-- The children of a sequent that fired.
pub mod Derived
pub mod Ways
pub mod Lent
