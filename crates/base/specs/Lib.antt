-- The tools that definitions and proofs share. Nothing here knows of books or sheets.
pub mod Branch
pub mod Lists
pub mod BranchLaws
pub mod ListLaws
