-- The lists of a pool's header, changed in place, and a sheet written into its slot.
pub mod Shift
pub mod Lists
pub mod Writes
