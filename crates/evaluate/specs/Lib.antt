-- Which sequent fires first, in the order of a strategy, over the text of an accepted book.
pub mod Answers
pub mod Rules
pub mod Visits
