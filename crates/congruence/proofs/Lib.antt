-- The theorems, bottom first.
pub mod Forced
pub mod Survivors
pub mod Merged
pub mod Sound
pub mod History
pub mod Rust
pub mod Children
