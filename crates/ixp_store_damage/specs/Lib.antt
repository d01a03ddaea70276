pub mod Damages
pub mod Loading
pub mod Placing
pub mod Reading
pub mod Walking
