-- A lone sheet that passed the checks, and what fires on it.
pub mod Lone
