-- An image read back is its state: lengths, reading back, bytes, the parts of an image that code writes in place, and lists of which all
-- but one region is kept.
pub mod Kept
pub mod Regions
pub mod Storable
pub mod Sheets
pub mod Pools
pub mod Octets
pub mod Slots
