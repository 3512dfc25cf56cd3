-- What every call keeps: a sheet that is sound stays so (01, "The pool"), and a book that was read names what it declares.
pub mod Tools
pub mod Settle
pub mod Join
pub mod Neat
pub mod Model
pub mod Book
pub mod Enter
pub mod Child
pub mod Depth
