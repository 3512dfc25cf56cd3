-- The tables of a working form.
pub mod Tables
