pub mod Seek
pub mod Serve
pub mod Clash
pub mod ByKind
