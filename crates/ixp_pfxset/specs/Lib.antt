pub mod BlockList
pub mod Blocks
pub mod Groups
pub mod Plain
pub mod Trie
