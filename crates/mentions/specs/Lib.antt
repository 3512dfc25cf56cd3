-- Variables in the text of literals: the text of a term is a row of nodes of four bytes, and a variable is in the term just if one of
-- them is that variable.
pub mod Nodes
pub mod Rows
