-- One law for each way out of the listing program: what it prints is what the definition says, by the promises of open and run.
pub mod Stops
pub mod Opening
pub mod Running
pub mod Reads
