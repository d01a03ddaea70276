pub mod Canonical
pub mod CanonicalItems
pub mod Printed
pub mod Sound
pub mod SoundItems
pub mod SoundStatements
pub mod Spelling
