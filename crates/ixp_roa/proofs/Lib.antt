pub mod CsvFields
pub mod CsvRows
pub mod Between
pub mod Climbing
pub mod SameRows
pub mod CsvTexts
pub mod InOrder
pub mod HalfNumbers
