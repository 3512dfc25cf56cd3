-- Walking over a text: what is left of things that follow one another, and of the terms still to come.
pub mod Rest
pub mod Terms
pub mod Parts
