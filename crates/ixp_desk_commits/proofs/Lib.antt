pub mod StoredEdits
pub mod KeysAfter
