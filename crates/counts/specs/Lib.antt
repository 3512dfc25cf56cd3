-- The readers are specified by `names_in` and the places beside it (texts, Names); here are the numbers of witnesses' kinds.
pub mod Kinds
