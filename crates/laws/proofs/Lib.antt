pub mod MergeByLaws
