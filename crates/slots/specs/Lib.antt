-- The working form of a sheet as a slot's bytes.
pub mod Store
pub mod Carry
