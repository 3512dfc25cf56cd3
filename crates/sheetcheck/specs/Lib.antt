-- The tests of a lone sheet say what the definitions say.
pub mod Regions
pub mod Entries
pub mod Tables
pub mod Depths
pub mod Images
pub mod Sheets
pub mod Lone
