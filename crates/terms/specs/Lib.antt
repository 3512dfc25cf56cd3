-- What stands first in a term, and how the check of a term goes on from it.
pub mod Head
