-- Recording on the working form: a key put in, elements as they are now, terms entered, and what never falls.
pub mod Grow
pub mod Keep
pub mod Args
pub mod Grows
pub mod Marks
pub mod Terms
pub mod Ways
