-- Laws of the listing's text off bytes: tables, sheets, pools.
pub mod Tables
pub mod Sheets
pub mod Pools
