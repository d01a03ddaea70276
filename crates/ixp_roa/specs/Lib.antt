pub mod CsvRoas
pub mod Climbs
pub mod Compacts
