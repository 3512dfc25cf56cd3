-- The numbers of document 01's refusals, and what a call answers.
pub mod Numbers
