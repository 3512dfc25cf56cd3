-- Looking up terms in the text of a book over the tables of a sheet: what tables show, what answers say, a law for each way out.
pub mod Shown
pub mod Digits
pub mod Answers
pub mod Ways
pub mod Literals
