-- Merging in the working form of a sheet: regions that were lent, one pair, the pairs one after another, and the whole.
pub mod Regions
pub mod Into
pub mod Held
pub mod Next
pub mod Merged
