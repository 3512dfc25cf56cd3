-- The working form of a sheet as one list of numbers: its places, what it shows, loading it from a slot's bytes and storing it.
pub mod Parts
pub mod Form
pub mod Load
