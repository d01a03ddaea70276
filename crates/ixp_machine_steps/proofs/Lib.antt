pub mod Accepting
pub mod Isolating
pub mod KeptLaws
pub mod KeptOwners
pub mod Once
pub mod Staying
