-- The demands as theorems over the definitions.
pub mod Shape
pub mod Refusals
pub mod Kept
pub mod Halves
pub mod Worlds
pub mod Demand3
pub mod Outcomes
pub mod Typed
pub mod Chain
pub mod Useless
pub mod Demands
pub mod Named
pub mod Example
pub mod Endless
