pub mod Keys
pub mod Ready
