pub mod Items
pub mod Made
