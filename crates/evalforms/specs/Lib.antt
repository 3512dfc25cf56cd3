-- What fires on a sheet's working form.
pub mod Basis
