-- A child from a disjunct: an existential's own identity, literals told one after another, the identities of existentials that no
-- literal has, and the whole.
pub mod Own
pub mod Tells
pub mod Owns
pub mod Whole
