pub mod TreeLaws
pub mod BulkLaws
