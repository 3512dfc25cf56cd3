-- Lists gone over from the front, and the values of a table in order of first appearance.
pub mod Front
pub mod Firsts
