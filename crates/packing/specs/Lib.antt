-- Keys and facts as numbers: comparing, digits, packing, renaming.
pub mod Compare
pub mod Digits
pub mod Pack
pub mod Replace
