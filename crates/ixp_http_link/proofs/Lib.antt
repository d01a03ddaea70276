pub mod Runs
pub mod Endings
pub mod Settled
pub mod Wholes
pub mod Completes
pub mod Keeps
pub mod Mapped
pub mod Leftovers
