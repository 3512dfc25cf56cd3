-- The bound on a literal's unknown terms: what is asked of the tables, depths of terms, what is admitted, a law for each way out.
pub mod Bounds
pub mod Seen
pub mod Answers
pub mod Ways
pub mod Admitted
