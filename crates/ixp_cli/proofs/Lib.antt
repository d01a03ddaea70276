pub mod Statuses
pub mod Servers
pub mod Loaded
pub mod WaitingRuns
pub mod Complete
pub mod Told
pub mod Lines
