-- A literal told to a child: a fact put in, what stays tidy, a literal recorded, a literal told, a law for each way out.
pub mod Facts
pub mod Stays
pub mod Literals
pub mod Ways
pub mod Judging
