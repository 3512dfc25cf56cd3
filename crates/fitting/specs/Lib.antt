-- What an arrangement fits, it goes on fitting: if it keeps the rules and fits a base, it fits a child of each firing.
pub mod Tools
pub mod Look
pub mod Enter
pub mod Merge
pub mod Child
pub mod Fire
pub mod Real
pub mod Things
