-- Open: the check of the length, what follows the book's check, and the image of an opened pool.
pub mod Order
pub mod Open
