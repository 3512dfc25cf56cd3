-- Laws of the definitions of `rules` that more than one theorem needs, and merging with its orders left open.
pub mod Tables
pub mod InOrder
pub mod Firing
pub mod MergeBy
