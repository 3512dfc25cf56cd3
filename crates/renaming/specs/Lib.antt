-- Numbers in order, and one element renamed in a table of them, place by place.
pub mod Order
pub mod Place
pub mod Parting
pub mod Bringing
pub mod Table
