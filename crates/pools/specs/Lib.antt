-- The pool as a whole: slots, lists and numbers through a step, a run, a take and an opening.
pub mod Count
pub mod Slots
pub mod Tidy
pub mod Moves
pub mod Steps
pub mod Stops
