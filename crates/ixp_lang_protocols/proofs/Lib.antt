pub mod SureProtocols
pub mod Words
pub mod WholeProtocols
