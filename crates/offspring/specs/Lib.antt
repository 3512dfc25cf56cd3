-- The children of a sequent that fired, stored.
pub mod One
pub mod All
