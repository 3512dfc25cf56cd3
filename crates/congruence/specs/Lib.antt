-- What merging makes of a sheet, said without pairs and rounds: the law that each way of merging meets, and that it determines the
-- merged sheet. `Merged` (in Merged) is the law. In proofs/ `merged_unique` says that one sheet meets it, `merge_merged` that `merge`
-- does, and `merge_any_order` that merging by any order is `merge`. `rust_is_merge` (in Rust) says it of the Rust's rounds, and
-- `children_any_order` and `children_rust` (in Children) of every merge that a step makes.
pub mod Forced
pub mod Images
pub mod Rising
pub mod Filing
pub mod Rounds
pub mod Way
pub mod Depths
pub mod Survivors
pub mod Merged
pub mod Within
pub mod History
pub mod Lowering
pub mod Rust
pub mod Children
