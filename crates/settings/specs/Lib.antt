-- What the numbers of settings stand for, and the lists of a pool's header by their numbers.
pub mod Codes
pub mod Numbers
