-- The calls step and run.
pub mod Verdict
pub mod Runs
